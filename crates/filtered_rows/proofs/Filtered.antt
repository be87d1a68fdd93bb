-- A component of a row behind all loop filters, by its lines as they are built.
use Rattle.std.proofs.Common.{◌≡◌, ℕ, ◌-◌, ◌^◌, ◌<◌, ◌≤◌, List, arith, ap, sym, subst, ◌∙◌, length}
use Rattle.hv_base.specs.declared.line.Line.{Line}
use Rattle.hv_base.specs.declared.line.Phase.{Phase}
use Rattle.hv_base.specs.declared.line.Phase.TheVariants.{B, S}
use Rattle.spec_deblocking.specs.declared.place.Place.{Place}
use Rattle.spec_sample_adaptive_offset.specs.declared.unit.OffsetUnit.{OffsetUnit}
use Rattle.spec_sample_adaptive_offset.specs.Plane.{offset_sample}
use Rattle.spec_loop_filters.specs.declared.format.FilterFormat.{FilterFormat}
use Rattle.spec_loop_filters.specs.Filters.{offset_plane}
use Rattle.filter_locality_laws.specs.Rows.{behind_horizontal, behind_vertical}
use Rattle.spec_picture_filters.specs.Data.{FilterData}
use Rattle.deblock.specs.Samples.{IsBounded}
use Rattle.loop_filters.specs.declared.component.Component.{Component}
use Rattle.loop_filters.specs.Formats.{IsComponent, filters_of}
use Rattle.row_filters.specs.Known.{ArePlaces, AreUnits}
use Rattle.row_filters.specs.Lines.{HoldLines, HoldRow, count_of}
use Rattle.sample_words.specs.declared.sizes.FlightSizes.{FlightSizes}
use Rattle.progress_words.specs.declared.pass.Pass.{Pass}
use Rattle.progress_words.specs.declared.view.View.{View}
use Rattle.progress_words.specs.Passes.{Knows, view}
use Rattle.flight_waits.specs.SpecFlights.{PlannedFlight, folded_at}
use Rattle.line_words.specs.Passes.{writing_run}
use Rattle.line_words.specs.Places.{IsUnit, UnitAt}
use Rattle.sample_lines.specs.FactsOfFlights.{FlightFacts}
use Rattle.sample_lines.specs.FactsOfFlights.{flight_in}
use Rattle.sample_lines.specs.FactsOfFlights.{IsOfFlight, samples_at}
use Rattle.filtered_rows.specs.Components.{IsFormatAt}
use Rattle.filtered_rows.proofs.Formats.{rows_same}
use Rattle.filtered_rows.proofs.Laying.{held_bounded}
use Rattle.filtered_rows.proofs.Ranges.{samples_small}
use Rattle.filtered_rows.proofs.Sides.{row_there}
use Rattle.filtered_rows.proofs.Steps.{horizontal_is, offset_is, vertical_is}

-- words are written behind reading
pub read_then_written : {F : Type 0} (p q r : Pass F) (n : ℕ) → Knows p q (view p)
    → Knows q r (writing_run (view q) n) → Knows p r (writing_run (view p) n)
read_then_written {F} p q r n first second =
    (second.0 ∙ first.0, second.1 ∙ ap (λ (v : View F). writing_run v n) first.1)

module _ (facts : FlightFacts) (s : FlightSizes) (is : IsOfFlight facts s) (u : UnitAt) (same : u.sizes ≡ s)
    (unit : IsUnit u) (k : Component) (format : FilterFormat)
    (by : IsFormatAt (flight_in facts) u.line.picture format) (of : IsComponent format k) where
  abbrev f : PlannedFlight
  f = flight_in facts

  abbrev gathered : FilterData
  gathered = (folded_at (flight_in facts) u.line.picture).filters

  small : (x y : ℕ) → samples_at f u.line.picture B k.c x y ≤ 2 ^ k.depth - 1
  small x y = samples_small f is.range u.line.picture format by B k.c k.depth of.depth x y

  -- lines that were read are in range, and of a row of the component
  module _ (b : Line) (e : b ≡ u.line) where
    pub read_bounded : (mid : List ℕ) → HoldLines k b.row 4 (samples_at f b.picture B k.c) mid
        → length mid ≡ count_of k b.row 4 → IsBounded (2 ^ k.depth - 1) mid
    read_bounded mid held many =
        held_bounded k b.row 4 (2 ^ k.depth - 1) (samples_at f b.picture B k.c) mid many held
        (λ x y. subst (λ (l : Line). samples_at f l.picture B k.c x y ≤ 2 ^ k.depth - 1) (sym e) (small x y))

    pub row_inside : b.row < k.rows
    row_inside =
        let there = (row_there s u same unit u.line.phase).row in
        let rows = of.rows in
        let all = rows_same facts s is u.line.picture format by in
        let row : b.row ≡ u.line.row = ap (λ (l : Line). l.row) e in
        omega (arith, there, rows, all, row)

  -- all loop filters of the picture as it is built
  abbrev behind_all : (ℕ → ℕ → Place) → (ℕ → ℕ → ℕ → OffsetUnit) → (ℕ → ℕ → ℕ) → ℕ → ℕ → ℕ
  behind_all places units g =
      offset_sample (offset_plane (filters_of format places units) k.c)
      (behind_horizontal format places k.c (behind_vertical format places k.c g))

  behind_built : behind_all gathered.places gathered.units (samples_at f u.line.picture B k.c)
      ≡ samples_at f u.line.picture S k.c
  behind_built =
      ap
      (λ (g : ℕ → ℕ → ℕ). offset_sample (offset_plane (filters_of format gathered.places gathered.units) k.c)
      (behind_horizontal format gathered.places k.c g))
      (vertical_is f u.line.picture format by k.c)
      ∙ (ap (λ (g : ℕ → ℕ → ℕ). offset_sample (offset_plane (filters_of format gathered.places gathered.units) k.c) g)
      (horizontal_is f u.line.picture format by k.c)
      ∙ offset_is f u.line.picture format by k.c)

  -- the row's lines behind them
  pub final_row : (b : Line) → b ≡ u.line → (known : ℕ → ℕ → Place) (known_units : ℕ → ℕ → ℕ → OffsetUnit)
      (mid new : List ℕ) → u.line.phase ≡ S → ArePlaces format u.line.row 2 gathered.places known
      → AreUnits format k.c u.line.row gathered.units known_units
      → HoldLines k b.row 4 (samples_at f b.picture B k.c) mid
      → ((places : ℕ → ℕ → Place) (units : ℕ → ℕ → ℕ → OffsetUnit) (g : ℕ → ℕ → ℕ)
      → ArePlaces format b.row 2 places known → AreUnits format k.c b.row units known_units → HoldLines k b.row 4 g mid
      → HoldRow k b.row 4 (behind_all places units g) new)
      → HoldRow k u.line.row 4 (samples_at f u.line.picture u.line.phase k.c) new
  final_row b e known known_units mid new phase are_places are_units held told =
      let row : b.row ≡ u.line.row = ap (λ (l : Line). l.row) e in
      let g : ℕ → ℕ → ℕ = samples_at f u.line.picture B k.c in
      let behind : HoldRow k b.row 4 (behind_all gathered.places gathered.units g) new =
      told gathered.places gathered.units g
      (subst (λ (r : ℕ). ArePlaces format r 2 gathered.places known) (sym row) are_places)
      (subst (λ (r : ℕ). AreUnits format k.c r gathered.units known_units) (sym row) are_units)
      (subst (λ (n : ℕ). HoldLines k b.row 4 (samples_at f n B k.c) mid) (ap (λ (l : Line). l.picture) e) held) in
      subst (λ (p : Phase). HoldRow k u.line.row 4 (samples_at f u.line.picture p k.c) new) (sym phase)
      (subst (λ (h : ℕ → ℕ → ℕ). HoldRow k u.line.row 4 h new) behind_built
      (subst (λ (r : ℕ). HoldRow k r 4 (behind_all gathered.places gathered.units g) new) row behind))
