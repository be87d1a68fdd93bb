-- A unit derived over what was gathered.
use Rattle.std.proofs.Common.{◌≡◌, ℕ, List, None, refl, arith}
use Rattle.std.proofs.Math.Path.{fun_ext}
use Rattle.std.proofs.lemmas.Bool.Decides.{nat_tests}
use Rattle.ctu_records.specs.declared.item.Item.{Item}
use Rattle.spec_picture_motion.specs.PlanTypes.{PicturePlan}
use Rattle.spec_picture_motion.specs.PlanTypes.{SegmentPlan}
use Rattle.spec_motion.specs.Units.{unit_derived}
use Rattle.spec_motion.specs.Vectors.{Beneath, Known}
use Rattle.spec_picture_motion.specs.PlanTypes.{address_of}
use Rattle.spec_picture_motion.specs.SpecPictureTrees.{picture_shape, slice_start}
use Rattle.spec_picture_motion.specs.Field.{Motions, beneath_unit, known_beside, no_motions, unit_laid}
use Rattle.spec_picture_motion.specs.Slices.{slice_motion}
use Rattle.spec_picture_motion.specs.SpecSliceData.{PictureShape}
use Rattle.picture_motion.specs.Deriving.{derived_over, known_over}
use Rattle.picture_layout.specs.declared.coding_tree_unit.CodingTreeUnit.{CodingTreeUnit}

-- beneath a unit without a collocated picture there is nothing
none_at : (picture : PictureShape) (address : ℕ) (beneath : Beneath) (i j : ℕ) → beneath i j ≡ None
    → beneath i j ≡ beneath_unit picture address no_motions i j
unfolding beneath_unit
none_at picture address beneath i j none = grind (arith, nat_tests)

pub none_beneath : (picture : PictureShape) (address : ℕ) (beneath : Beneath) → ((i j : ℕ) → beneath i j ≡ None)
    → beneath ≡ beneath_unit picture address no_motions
none_beneath picture address beneath none = fun_ext (λ i. fun_ext (λ j. none_at picture address beneath i j (none i j)))

-- what is known once a unit is derived
pub known_is : (collocated : Motions) (p q : PicturePlan) (s : SegmentPlan) (address : ℕ) (items : List Item)
    (motions before : Motions) (unit : CodingTreeUnit) (beside : Known) (beneath : Beneath) (last : Known)
    → q ≡ p → before ≡ motions
    → unit.layout ≡ picture_shape p.sps p.pps → unit.slice ≡ address_of (slice_start p s) → unit.address ≡ address
    → beside ≡ known_beside unit.layout unit.slice unit.address before
    → beneath ≡ beneath_unit unit.layout unit.address collocated
    → last ≡ unit_derived (slice_motion q s unit.address) beneath items beside
    → last ≡ known_over collocated p s address items motions
unfolding known_over
known_is collocated p q s address items motions before unit beside beneath last same was layout slice
    at known below told = rw (told, known, below, layout, slice, at, same, was) refl

-- and the picture's motion then
pub laid_is : (collocated : Motions) (p q : PicturePlan) (s : SegmentPlan) (address : ℕ) (items : List Item)
    (motions before after : Motions) (unit : CodingTreeUnit) (last : Known)
    → q ≡ p → before ≡ motions
    → unit.layout ≡ picture_shape p.sps p.pps → unit.address ≡ address
    → last ≡ known_over collocated p s address items motions
    → after ≡ unit_laid unit.layout unit.address (slice_motion q s unit.address) last before
    → after ≡ derived_over collocated p s address items motions
unfolding derived_over
laid_is collocated p q s address items motions before after unit last same was layout at known told =
    rw (told, known, layout, at, same, was) refl
