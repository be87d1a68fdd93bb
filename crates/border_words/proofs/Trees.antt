-- Sound coding tree units of a row of a picture, and what stands in their words.
use Rattle.std.proofs.Common.{◌≡◌, ℕ, ◌+◌, ◌*◌, ◌<◌, ◌≤◌, true, Some, slice_get, arith, ap, sym, ◌∙◌, subst}
use Rattle.hv_base.specs.declared.line.Line.{Line}
use Rattle.hv_base.specs.declared.line.Phase.{Phase}
use Rattle.hv_base.specs.declared.line.Phase.TheVariants.{B}
use Rattle.plan_types.specs.declared.picture_plan.PicturePlan.{PicturePlan}
use Rattle.spec_slice_data.specs.Segment.{PictureShape}
use Rattle.spec_picture_trees.specs.Places.{unit_places}
use Rattle.spec_picture_trees.specs.Shapes.{picture_shape}
use Rattle.sample_words.specs.declared.sizes.FlightSizes.{FlightSizes}
use Rattle.sample_words.specs.Sizes.{columns}
use Rattle.sample_words.specs.Words.{IsLine, line_number, line_units}
use Rattle.spec_flights.specs.Pictures.{folded_at}
use Rattle.spec_flights.specs.Rows.{is_sound}
use Rattle.progress_words.specs.declared.view.View.{View}
use Rattle.progress_words.specs.Views.{seen_of}
use Rattle.row_borders.specs.Borders.{Bordering}
use Rattle.line_words.specs.Places.{UnitAt, number_at}
use Rattle.sample_lines.specs.FactsOfFlights.{FlightFacts}
use Rattle.sample_lines.specs.FactsOfFlights.{flight_in}
use Rattle.sample_lines.specs.FactsOfFlights.{IsOfFlight}
use Rattle.border_words.specs.declared.unit_blocks.UnitBlocks.{UnitBlocks}
use Rattle.border_words.specs.Beneath.{HasColumn, IsUnitBlocks, motion_in_unit}
use Rattle.border_words.specs.Units.{IsTreeUnit, column_at, row_at}

abbrev pub unit_at : FlightSizes → Line → ℕ → UnitAt
unit_at s line x = record { sizes = s; line = line; unit = x }

pub has_unit : (s : FlightSizes) (line : Line) (x : ℕ) → line.phase ≡ B → x < columns s
    → x < line_units s line.phase
has_unit s line x phase less = subst (λ (p : Phase). x < line_units s p) (sym phase) less

module _ (facts : FlightFacts) (s : FlightSizes) (line : Line) (p : PicturePlan) (x : ℕ) (u : UnitAt)
    (is : u ≡ unit_at s line x) where
  pub tree_at : IsOfFlight facts s → IsLine s line → line.phase ≡ B
      → slice_get (flight_in facts).pictures line.picture ≡ Some p → x < columns s
      → ((y : ℕ) → y < columns s → is_sound (flight_in facts) line y ≡ true) → IsTreeUnit facts u p
  tree_at flight line_is phase picture less sound =
      subst (λ (a : UnitAt). IsTreeUnit facts a p) (sym is)
      (record {
        flight = flight;
        phase = phase;
        picture = picture;
        unit = record { line = line_is; unit = has_unit s line x phase less };
        sound = sound x less;
      })

  pub unit_seen : {F : Type 0} (v : View F) → x < columns s → columns s ≤ seen_of v (line_number s line)
      → u.unit < seen_of v (number_at u)
  unit_seen v less seen =
      subst (λ (a : UnitAt). a.unit < seen_of v (number_at a)) (sym is) (omega (arith, less, seen))

  -- the motion that its picture keeps of its places
  module _ (b : UnitBlocks) (blocks : IsUnitBlocks facts b) (plan_is : b.plan.now ≡ p) (at_is : b.at.now ≡ u) where
    pub side_of_blocks : unit_places b.unit.layout ≡ unit_places (picture_shape p.sps p.pps)
    side_of_blocks =
        ap (λ (q : PictureShape). unit_places q) blocks.layout
        ∙ ap (λ (r : PicturePlan). unit_places (picture_shape r.sps r.pps)) plan_is

    motion_is : (i j : ℕ) → motion_in_unit facts b i j
        ≡ (folded_at (flight_in facts) line.picture).motions
        (unit_places (picture_shape p.sps p.pps) * x + i) (unit_places (picture_shape p.sps p.pps) * line.row + j)
    motion_is i j =
        ap (λ (a : UnitAt). (folded_at (flight_in facts) a.line.picture).motions (column_at b.plan.now a i)
        (row_at b.plan.now a j)) (at_is ∙ is)
        ∙ ap (λ (r : PicturePlan). (folded_at (flight_in facts) line.picture).motions
        (column_at r (unit_at s line x) i) (row_at r (unit_at s line x) j)) plan_is

    pub column_of_blocks : (border : Bordering) (c i : ℕ)
        → HasColumn border (unit_places b.unit.layout) c (λ row. motion_in_unit facts b i (4 * row))
        → HasColumn border (unit_places (picture_shape p.sps p.pps)) c
        (λ row. (folded_at (flight_in facts) line.picture).motions
        (unit_places (picture_shape p.sps p.pps) * x + i)
        (unit_places (picture_shape p.sps p.pps) * line.row + 4 * row))
    column_of_blocks border c i has row down =
        has row (subst (λ n. 4 * row < n) (sym side_of_blocks) down) ∙ motion_is i (4 * row)
