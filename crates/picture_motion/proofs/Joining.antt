-- What a unit's derivation over a collocated picture has in common with the definition of a picture's motion.
use Rattle.std.proofs.Common.{◌≡◌, refl}
use Rattle.spec_picture_motion.specs.PlanTypes.{PicturePlan}
use Rattle.spec_picture_motion.specs.PlanTypes.{SegmentPlan}
use Rattle.spec_picture_motion.specs.SpecPictureTrees.{TreeUnit}
use Rattle.spec_picture_motion.specs.SpecPictureTrees.{slice_start}
use Rattle.spec_picture_motion.specs.Derived.{References, collocated_motions, known_of_unit, unit_added}
use Rattle.spec_picture_motion.specs.Field.{Motions}
use Rattle.spec_picture_motion.specs.Slices.{collocated_entry}
use Rattle.picture_motion.specs.Deriving.{derived_over, known_over}

-- the motion of the collocated picture of a segment's slice
abbrev pub collocated_in : References → PicturePlan → SegmentPlan → Motions
collocated_in pictures p s = collocated_motions pictures (collocated_entry s.header.slice (slice_start p s).lists)

-- what is known of a unit, over that motion
pub known_joins : (pictures : References) (p : PicturePlan) (s : SegmentPlan) (unit : TreeUnit)
    (collocated motions : Motions)
    → collocated ≡ collocated_in pictures p s
    → known_over collocated p s unit.ctu unit.read.items motions ≡ known_of_unit pictures p s unit motions
unfolding known_over known_of_unit
known_joins pictures p s unit collocated motions e = rw e refl

-- and the picture's motion behind it
pub added_joins : (pictures : References) (p : PicturePlan) (s : SegmentPlan) (unit : TreeUnit)
    (collocated motions : Motions)
    → collocated ≡ collocated_in pictures p s
    → derived_over collocated p s unit.ctu unit.read.items motions ≡ unit_added pictures p s unit motions
unfolding derived_over unit_added
added_joins pictures p s unit collocated motions e = rw (known_joins pictures p s unit collocated motions e) refl
