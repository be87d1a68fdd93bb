-- The motion that a picture keeps of a place, and whether it is coded, by the two words of the place.
use Rattle.std.specs.Prelude.{◌≡◌, ℕ, Bool, Option, Some, None, slice_get}
use Rattle.plan_types.specs.declared.picture_plan.PicturePlan.{PicturePlan}
use Rattle.plan_types.specs.declared.segment_plan.SegmentPlan.{SegmentPlan}
use Rattle.spec_motion.specs.declared.slice_motion.SliceMotion.{SliceMotion}
use Rattle.spec_motion.specs.declared.vectors.Motion.{Motion}
use Rattle.picture_buffer.specs.declared.place_motion.PlaceMotion.{PlaceMotion}
use Rattle.spec_picture_motion.specs.Field.{motion_of, pointing_motion}
use Rattle.spec_picture_motion.specs.Slices.{slice_motion}
use Rattle.sample_words.specs.declared.modes.PlaceModes.{PlaceModes}
use Rattle.row_above_laws.specs.UnitWords.{ArePlace}
use Rattle.border_words.specs.declared.kept_places.SegmentMotion.{SegmentMotion}

-- what the motion of the unit at an address depends on, in the slice of a segment, where the plan has that
abbrev pub motion_in_segment : PicturePlan → ℕ → Option SegmentPlan → Option SliceMotion
motion_in_segment p address None = None
motion_in_segment p address (Some s) = Some (slice_motion p s address)

-- motion with the pictures that it refers to, where the slice is known
abbrev pub pointing_in : Option SliceMotion → Option Motion → Option PlaceMotion
pointing_in None motion = None
pointing_in (Some slice) motion = pointing_motion slice motion

-- it is that of the unit at an address, in the segment with its number
abbrev pub IsOfSegment : PicturePlan → ℕ → SegmentMotion → Type 0
IsOfSegment p address m = m.slice ≡ motion_in_segment p address (slice_get p.segments m.number)

-- two words are those of a place of the unit at an address, of which the picture keeps this motion, and whether it is
-- coded
pub record AreOfPlace (p : PicturePlan) (address : ℕ) (motion : Option PlaceMotion) (coded : Bool) (first second : ℕ)
    : Type 0 where
  pub modes : PlaceModes
  pub words : ArePlace (motion_of motion) modes first second
  pub kept : motion
      ≡ pointing_in (motion_in_segment p address (slice_get p.segments modes.segment)) (motion_of motion)
  pub flag : modes.coded ≡ coded
