-- The lines of a row as a whole, among those of its picture.
use Rattle.std.proofs.Common.{◌≡◌, ◌==◌, ℕ, ◌+◌, ◌-◌, ◌*◌, ◌<◌, ◌≤◌, cond, List, get_or, length, refl, sym, ap, subst}
use Rattle.std.proofs.Common.{◌∙◌, arith}
use borrow.Rule.Slice.PartMut.{put_mid}
use Rattle.hv_base.specs.declared.line.Line.{Line}
use Rattle.hv_base.specs.declared.line.Phase.{Phase}
use Rattle.hv_base.specs.declared.line.Phase.TheVariants.{S}
use Rattle.sample_words.specs.declared.sizes.FlightSizes.{FlightSizes}
use Rattle.sample_words.specs.Contents.{component_side, first_column, unit_width}
use Rattle.sample_words.specs.Sizes.{IsFlight, ctb_size, height_of, rows}
use Rattle.spec_flights.specs.Pictures.{PlannedFlight}
use Rattle.line_words.specs.Places.{IsUnit, UnitAt}
use Rattle.sample_lines.specs.FactsOfFlights.{samples_at}
use Rattle.sample_lines.specs.Lines.{height_at, sample_of, width_at}
use Rattle.taken_pictures.specs.Rows.{first_line, is_line_of_row}
use Rattle.taken_pictures.proofs.Lines.{part_inside, part_written, row_laid}
use Rattle.taken_pictures.proofs.Sides.{side_of_none}

no_side : (c : ℕ) → component_side c 0 ≡ 0
no_side c = side_of_none (c == 0) 0 refl

pub row_width : (at : UnitAt) (c : ℕ) → at.line.phase ≡ S → width_at at c ≡ component_side c at.sizes.width
row_width at c phase = ap (λ (p : Phase). component_side c (unit_width at.sizes p at.unit)) phase

pub row_sample : (f : PlannedFlight) (at : UnitAt) (c x y : ℕ) → at.line.phase ≡ S
    → sample_of f at c x y
    ≡ samples_at f at.line.picture S c x (first_line at.sizes c at.line.row + y)
unfolding sample_of
row_sample f at c x y phase =
    let left : component_side c 0 + x ≡ x = let z = no_side c in omega (arith, z) in
    (λ t. samples_at f at.line.picture (phase t) c
    (component_side c (first_column at.sizes (phase t) at.unit) + x) (first_line at.sizes c at.line.row + y))
    ∙ ap (λ n. samples_at f at.line.picture S c n (first_line at.sizes c at.line.row + y)) left

-- the lines of a component of a row: how many samples each has, which is the first one, and how many they are
pub record ArePart (s : FlightSizes) (at : UnitAt) (c w first count : ℕ) : Type 0 where
  pub sizes : IsFlight s
  pub place : at.sizes ≡ s
  pub phase : at.line.phase ≡ S
  pub there : at.line.row < rows s
  pub wide : w ≡ component_side c s.width
  pub top : first ≡ first_line s c at.line.row
  pub high : count ≡ component_side c (height_of s at.line.row)

pub are_part : (s told : FlightSizes) (at : UnitAt) (line : Line) (c row side lines w first count : ℕ) → IsFlight s
    → told ≡ s → at.sizes ≡ s → at.line.phase ≡ S → IsUnit at → line ≡ at.line → row ≡ line.row → side ≡ ctb_size s
    → lines ≡ height_of s row → w ≡ component_side c told.width → first ≡ component_side c (line.row * side)
    → count ≡ component_side c lines → ArePart s at c w first count
are_part s told at line c row side lines w first count sizes same place phase unit is row_is side_is lines_are wide top
    high =
    record {
      sizes = sizes;
      place = place;
      phase = phase;
      there = subst (λ (t : FlightSizes). at.line.row < rows t) place unit.line.row;
      wide = wide ∙ ap (λ (t : FlightSizes). component_side c t.width) same;
      top = top ∙ (λ t. component_side c ((is t).row * side_is t));
      high = high
          ∙ ap (component_side c) (lines_are ∙ ap (height_of s) (row_is ∙ ap (λ (l : Line). l.row) is));
    }

module _ (s : FlightSizes) (at : UnitAt) (c w first count : ℕ) (part : ArePart s at c w first count)
    (plane : List ℕ) (whole : length plane ≡ component_side c s.width * component_side c s.height) where
  width_same : w ≡ width_at at c
  width_same =
      sym (row_width at c part.phase
      ∙ (ap (λ (t : FlightSizes). component_side c t.width) part.place ∙ sym part.wide))

  -- they are within the lines of the component
  pub part_ends : w * first + w * count ≤ length plane
  part_ends =
      part_inside s c at.line.row part.sizes part.there w first count (w * count) part.wide part.top part.high plane
      whole

  pub part_lines : 0 + count ≤ height_at at c
  part_lines =
      let same : height_at at c ≡ component_side c (height_of s at.line.row) =
      ap (λ (t : FlightSizes). component_side c (height_of t at.line.row)) part.place in
      let high = part.high in
      omega (arith, high, same)

  abbrev size : ℕ
  size = w * first + w * count - w * first

  size_is : w * first + w * count - w * first ≡ w * count
  size_is = omega arith

  pub part_room : size ≡ width_at at c * count
  part_room = size_is ∙ ap (λ m. m * count) width_same

  module _ (out : List ℕ) (many : length out ≡ w * first + w * count - w * first) where
    pub part_count : length (put_mid (w * first) (w * first + w * count - w * first) plane out) ≡ length plane
    part_count =
        let ends = part_ends in
        let is = size_is in
        part_written (w * first) (w * first + w * count - w * first) plane out (omega (arith, ends, is)) many

    pub part_value : (f : PlannedFlight)
        → ((x y : ℕ) → x < width_at at c → y < count
        → get_or out (width_at at c * y + x) 0 ≡ sample_of f at c x (0 + y))
        → (x y : ℕ) → x < component_side c s.width → y < component_side c s.height
        → get_or (put_mid (w * first) (w * first + w * count - w * first) plane out)
        (component_side c s.width * y + x) 0
        ≡ cond (is_line_of_row s c at.line.row y) (samples_at f at.line.picture S c x y)
        (get_or plane (component_side c s.width * y + x) 0)
    part_value f told =
        row_laid s c at.line.row part.sizes part.there w first count (w * first + w * count - w * first) part.wide
        part.top part.high plane whole size_is out (λ x y. samples_at f at.line.picture S c x y) many
        (λ x y less low.
        let start : first_line at.sizes c at.line.row + (0 + y) ≡ first + y =
        let e : first_line at.sizes c at.line.row ≡ first =
        ap (λ (t : FlightSizes). first_line t c at.line.row) part.place ∙ sym part.top in
        omega (arith, e) in
        ap (λ m. get_or out (m * y + x) 0) width_same
        ∙ (told x y (subst (λ m. x < m) width_same less) low
        ∙ (row_sample f at c x (0 + y) part.phase ∙ ap (samples_at f at.line.picture S c x) start)))
