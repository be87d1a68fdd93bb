-- The shape of a unit, by what a layout tells of its line.
use Rattle.std.proofs.Common.{◌≤◌, ◌/◌, ◌==◌, arith, Bool, true, false, cond, ◌≡◌, ℕ, ◌<◌, ◌∙◌, sym, subst}
use Rattle.hv_base.specs.declared.line.Line.{Line}
use Rattle.hv_base.specs.declared.line.Phase.{Phase}
use Rattle.hv_base.specs.declared.line.Phase.TheVariants.{B, V, H, S}
use Rattle.sample_words.specs.declared.sizes.FlightSizes.{FlightSizes}
use Rattle.sample_words.specs.declared.unit_content.UnitContent.TheVariants.{Samples}
use Rattle.sample_words.specs.Contents.{IsContent, component_side, index_of, unit_width}
use Rattle.sample_words.specs.Sizes.{IsFlight, height_of, line_words}
use Rattle.sample_words.specs.Words.{IsLine, line_units}
use Rattle.sample_words.proofs.Bounds.{small_width}
use Rattle.line_words.specs.Places.{IsUnit, UnitAt}
use Rattle.flight_facts.specs.declared.flight_facts.FlightFacts.{FlightFacts}
use Rattle.flight_facts.specs.Flights.{IsOfFlight}
use Rattle.flight_facts.proofs.Laid.{board_sizes}
use Rattle.sample_lines.specs.Lines.{height_at, luma_height, luma_width, sample_index, width_at}

-- a unit of a flight of these sizes, with its line and its number in it
module _ (at : UnitAt) (s : FlightSizes) (l : Line) (unit : ℕ) (place : at.sizes ≡ s) (line_is : l ≡ at.line)
    (number_is : unit ≡ at.unit) where
  pub shape_line : IsUnit at → IsLine s l
  shape_line is =
      subst (λ (k : Line). IsLine s k) (sym line_is) (subst (λ (t : FlightSizes). IsLine t at.line) place is.line)

  pub shape_unit : IsUnit at → unit < line_units s l.phase
  shape_unit is =
      subst (λ (k : Line). unit < line_units s k.phase) (sym line_is)
      (subst (λ (n : ℕ). n < line_units s at.line.phase) (sym number_is)
      (subst (λ (t : FlightSizes). at.unit < line_units t at.line.phase) place is.unit))

  pub shape_width : (width : ℕ) → width ≡ unit_width s l.phase unit → width ≡ luma_width at
  shape_width width is = is ∙ λ i. unit_width (sym place i) (line_is i).phase (number_is i)

  pub shape_height : (height : ℕ) → height ≡ height_of s l.row → height ≡ luma_height at
  shape_height height is = is ∙ λ i. height_of (sym place i) (line_is i).row

-- which word of the unit has samples, by its shape
module _ (at : UnitAt) (s : FlightSizes) (width height unit c line word : ℕ) (place : at.sizes ≡ s)
    (width_is : width ≡ luma_width at) (height_is : height ≡ luma_height at) (unit_is : unit ≡ at.unit) where
  pub shape_content : c < 3 → line < height_at at c → word < line_words s (width_at at c)
      → IsContent s width height unit (Samples c line word)
  shape_content few below inside = (
    few,
    subst (λ (n : ℕ). line < component_side c n) (sym height_is) below,
    subst (λ (n : ℕ). word < line_words s (component_side c n)) (sym width_is) inside,
  )

  pub shape_index : index_of s width height unit (Samples c line word) ≡ sample_index at c line word
  unfolding sample_index
  shape_index = λ i. index_of (sym place i) (width_is i) (height_is i) (unit_is i) (Samples c line word)

-- a unit has few samples across
few_columns : (s : FlightSizes) (phase : Phase) (unit : ℕ) → IsFlight s → unit_width s phase unit ≤ 8192
few_columns s B unit is = let few = small_width s unit is in omega (arith, few)
few_columns s V unit is = is.width
few_columns s H unit is = is.width
few_columns s S unit is = is.width

side_less : (luma : Bool) (n : ℕ) → cond luma n (n / 2) ≤ n
side_less true n = omega arith
side_less false n = omega arith

pub few_across : (facts : FlightFacts) (at : UnitAt) (s : FlightSizes) (c : ℕ) → at.sizes ≡ s → IsOfFlight facts s
    → width_at at c ≤ 8192
few_across facts at s c place is =
    let has = board_sizes facts s is in
    let here : IsFlight s = subst (λ (t : FlightSizes). IsFlight t) has.0 has.1.sizes in
    let few : luma_width at ≤ 8192 =
    few_columns at.sizes at.line.phase at.unit (subst (λ (t : FlightSizes). IsFlight t) (sym place) here) in
    let less = side_less (c == 0) (luma_width at) in
    omega (arith, few, less)
