-- What a row of a flight is waited for is of lines of the flight, and of others than the waiting one.
use Rattle.std.proofs.Common.{
  ◌≡◌,
  ◌≢◌,
  ℕ,
  ◌+◌,
  ◌-◌,
  ◌<◌,
  ◌≤◌,
  arith,
  sym,
  subst,
  ◌∙◌,
  List,
  [],
  ◌∷◌,
  ◌++◌,
  All,
  get_or,
  min,
}
use Rattle.std.specs.List.{flat_map, range_with_len}
use Rattle.std.proofs.lemmas.List.{append-nil}
use Rattle.std.proofs.lemmas.List.Elements.{All-append, All-from_get_or, All-map, All-nil}
use Rattle.std.proofs.lemmas.List.FromFn.{get_or-range_with_len, length-range_with_len}
use Rattle.hv_base.specs.declared.line.Line.{Line}
use Rattle.hv_base.specs.declared.line.Phase.{Phase}
use Rattle.hv_base.specs.declared.line.Phase.TheVariants.{B, V, H, S}
use Rattle.flight_plan.specs.Flight.{FlightRows, IsEarlier, picture_at}
use Rattle.flight_plan.specs.declared.row_range.Reference.{Reference}
use Rattle.flight_plan.specs.declared.row_range.Reference.TheVariants.{Base, Flight}
use Rattle.flight_plan.specs.declared.row_range.RowRange.{RowRange}
use Rattle.board_core.specs.Needs.{range_needs, reference_needs, rows_needs, unit_needs}
use Rattle.board_core.specs.Places.{full_count, IsLine, line_of}
use Rattle.sample_words.specs.declared.sizes.FlightSizes.{FlightSizes}
use Rattle.sample_words.specs.Words.{line_number}
use Rattle.flight_lines.specs.Flights.{IsSized}
use Rattle.flight_lines.specs.Numbers.{AreOfFlight, numbered_needs}
use Rattle.flight_lines.proofs.Needed.{AreOfLines, IsOfLine, of_flight, unit_lines}
use Rattle.line_words.specs.Passes.{NameOthers}
use Rattle.line_words.proofs.Apart.{IsOther, apart_phases, other_numbers, reference_other, rows_other}

module _ (plan : FlightRows) where
  rows_lines : (phase : Phase) (k first last : ℕ) → AreOfLines plan (rows_needs plan phase k first last)
  rows_lines phase k first last =
      let n : ℕ = min (last + 1) (picture_at plan k).rows - first in
      let f : ℕ → Line × ℕ = λ r. (line_of phase k r, full_count plan (line_of phase k r)) in
      All-map (IsOfLine plan) f (range_with_len first n)
      (All-from_get_or (λ r. IsOfLine plan (f r)) (range_with_len first n) 0
      (λ i inside.
      let lt : i < n = omega (arith, length-range_with_len first n) in
      let e = get_or-range_with_len first n i 0 lt in
      let here : first + i < (picture_at plan k).rows = omega arith in
      subst (λ r. IsOfLine plan (f r)) (sym e) here))

  reference_lines : (r : Reference) (first last : ℕ) → AreOfLines plan (reference_needs plan r first last)
  reference_lines (Base place) first last = All-nil (IsOfLine plan)
  reference_lines (Flight k) first last = rows_lines S k first last

  -- of one range alone
  one_range : (range : RowRange)
      → flat_map (range_needs plan) (range ∷ []) ≡ range_needs plan range
  one_range range = append-nil (range_needs plan range)

  module _ (s : FlightSizes) (sized : IsSized plan s) where
    pub range_of_flight : (range : RowRange) → AreOfFlight s (range_needs plan range)
    range_of_flight range =
        of_flight plan s sized (range_needs plan range) (reference_lines range.picture range.first range.last)

    module _ (l : Line) (line : IsLine plan l) where
      pub range_others : (range : RowRange) → IsEarlier l.picture range.picture
          → NameOthers (line_number s l) (numbered_needs s (range_needs plan range))
      range_others range earlier =
          other_numbers plan s l sized line (range_needs plan range)
          (reference_lines range.picture range.first range.last)
          (reference_other plan l range.picture range.first range.last earlier)

      -- rows as they are built, for one behind all filters
      pub built_others : l.phase ≡ S → IsLine plan (line_of H l.picture l.row)
          → NameOthers (line_number s l) (numbered_needs s (unit_needs plan (line_of H l.picture l.row) 0))
      built_others is beside =
          let k : ℕ = l.picture in
          let first : ℕ = l.row - 1 in
          let last : ℕ = l.row + 1 in
          other_numbers plan s l sized line (unit_needs plan (line_of H k l.row) 0)
          (unit_lines plan (line_of H k l.row) 0 beside)
          (All-append (IsOther plan l) (rows_needs plan V k first last) (rows_needs plan B k first last)
          (rows_other plan l V k first last (λ e same. apart_phases V S l.phase e (sym is) (omega arith)))
          (rows_other plan l B k first last (λ e same. apart_phases B S l.phase e (sym is) (omega arith))))

      -- a row of an earlier picture
      pub earlier_others : (k row : ℕ) → k < l.picture → IsLine plan (line_of V k row)
          → NameOthers (line_number s l) (numbered_needs s (unit_needs plan (line_of V k row) 0))
      earlier_others k row earlier there =
          other_numbers plan s l sized line (unit_needs plan (line_of V k row) 0)
          (unit_lines plan (line_of V k row) 0 there)
          (rows_other plan l B k row row (λ e same. omega (arith, earlier, same)))
