-- Which segment has a unit.
use Rattle.std.proofs.Common.{◌≡◌, ℕ, ◌+◌, ◌-◌, ◌<◌, ◌≤◌, Bool, true, false, ◌&&◌, List, [], ◌∷◌, Option, Some}
use Rattle.std.proofs.Common.{nat_le}
use Rattle.std.proofs.Common.{nat_lt}
use Rattle.std.proofs.Common.{if◌then◌else◌, refl, ap, ◌∙◌, arith, le-leb, lt-ltb, max, min}
use Rattle.std.proofs.lemmas.Bool.{and_from, and_right, false_from_ne_true, ltb-true}
use Rattle.header_types.specs.SequenceParameterSets.{size_in_ctbs}
use Rattle.spec_known_units.specs.PlanTypes.{PicturePlan}
use Rattle.spec_known_units.specs.PlanTypes.{SegmentPlan}
use Rattle.spec_known_units.specs.SpecPictureTrees.{SegmentAt, segment_at}
use Rattle.spec_known_units.specs.SpecPictureTrees.{end_of, segment_shape}
use Rattle.spec_known_units.specs.Known.{is_in, segment_having, segments_from}

not_below : (a b : ℕ) → b ≤ a → nat_lt a b ≡ false
not_below a b le = false_from_ne_true (nat_lt a b) (λ e. omega (arith, le, ltb-true a b e))

-- the first of segments has its own units
pub found_first : (at : SegmentAt) (later : List SegmentAt) (address : ℕ) → at.shape.first ≤ address
    → address < at.shape.first + at.shape.count → segment_having (at ∷ later) address ≡ Some at
unfolding segment_having
found_first at later address low high =
    ap (λ b. if b then Some at else segment_having later address)
    (and_from _ _ (le-leb at.shape.first address low) (lt-ltb address (at.shape.first + at.shape.count) high))

-- units behind it are another's
pub found_later : (at : SegmentAt) (later : List SegmentAt) (address : ℕ)
    → at.shape.first + at.shape.count ≤ address
    → segment_having (at ∷ later) address ≡ segment_having later address
unfolding segment_having
found_later at later address behind =
    ap (λ b. if b then Some at else segment_having later address)
    (and_right (nat_le at.shape.first address) _ (not_below address (at.shape.first + at.shape.count) behind))

-- a segment ends no earlier than it begins, and in the picture
pub ends_behind : (size first : ℕ) (later : List SegmentPlan) → first ≤ end_of size first later
ends_behind size first [] = omega arith
ends_behind size first (next ∷ later) = omega arith

pub ends_inside : (size first : ℕ) (later : List SegmentPlan) → first ≤ size → end_of size first later ≤ size
ends_inside size first [] le = omega arith
ends_inside size first (next ∷ later) le = omega arith

-- the place behind the last of these segments
unfoldable pub behind_all : ℕ → ℕ → List SegmentPlan → ℕ
behind_all size first [] = first
behind_all size first (s ∷ later) = behind_all size (end_of size first later) later

-- that is the picture's end
pub ends_with_picture : (size first : ℕ) (s : SegmentPlan) (later : List SegmentPlan) → first ≤ size
    → behind_all size first (s ∷ later) ≡ size
unfolding behind_all
ends_with_picture size first s [] le = omega (arith, le)
ends_with_picture size first s (next ∷ later) le =
    ends_with_picture size (end_of size first (next ∷ later)) next later (ends_inside size first (next ∷ later) le)
