-- A picture while its motion is derived.
use Rattle.std.specs.Prelude.{ℕ, List}
use Rattle.ctu_motion.specs.Held.{Cells}
use Rattle.ctu_records.specs.declared.item.Item.{Item}
use Rattle.picture_buffer.specs.Motion.{FieldPlaces}
use Rattle.spec_picture_motion.specs.PlanTypes.{SegmentPlan}
use Rattle.spec_picture_motion.specs.PlanTypes.{PicturePlan}
use Rattle.spec_motion.specs.Units.{unit_derived}
use Rattle.spec_motion.specs.Vectors.{Known}
use Rattle.spec_picture_motion.specs.PlanTypes.{address_of}
use Rattle.spec_picture_motion.specs.SpecPictureTrees.{picture_shape, slice_start}
use Rattle.spec_picture_motion.specs.Field.{Motions, beneath_unit, known_beside, unit_laid}
use Rattle.spec_picture_motion.specs.Slices.{slice_motion}

-- a planned picture, its motion so far, and what is known of that of its last unit
pub record Deriving : Type 0 where
  pub plan : PicturePlan
  pub field : FieldPlaces
  pub last : Cells

-- what is known of the motion of the unit of a segment at an address, by the motion of the collocated picture and that
-- of its own picture so far
unfoldable pub known_over : Motions → PicturePlan → SegmentPlan → ℕ → List Item → Motions → Known
known_over collocated p s address items motions =
    unit_derived (slice_motion p s address) (beneath_unit (picture_shape p.sps p.pps) address collocated) items
    (known_beside (picture_shape p.sps p.pps) (address_of (slice_start p s)) address motions)

-- the motion of the picture behind that unit
unfoldable pub derived_over : Motions → PicturePlan → SegmentPlan → ℕ → List Item → Motions → Motions
derived_over collocated p s address items motions =
    unit_laid (picture_shape p.sps p.pps) address (slice_motion p s address)
    (known_over collocated p s address items motions) motions
