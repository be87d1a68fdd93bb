-- Motion that fits its words, and the motion that a picture keeps of a place, by what the words of the place have.
use Rattle.std.specs.Prelude.{ℕ, Bool, true, false, Option, Some, None, IfSome, slice_get, if◌then◌else◌}
use Rattle.std.specs.Prelude.{⊤}
use Rattle.plan_types.specs.declared.picture_plan.PicturePlan.{PicturePlan}
use Rattle.plan_types.specs.declared.segment_plan.SegmentPlan.{SegmentPlan}
use Rattle.spec_motion.specs.declared.vectors.Motion.{Motion}
use Rattle.spec_motion.specs.declared.vectors.Vector.{Vector}
use Rattle.known_picture_laws.specs.PictureBuffer.{PlaceMotion}
use Rattle.known_picture_laws.specs.SpecPictureMotion.{Motions, motion_of, pointing_motion}
use Rattle.known_picture_laws.specs.SpecPictureMotion.{slice_motion}
use Rattle.sample_words.specs.declared.modes.PlaceModes.{PlaceModes}
use Rattle.sample_words.specs.Values.{IsMotion}

-- one of two vectors is there
abbrev pub HasOne : Option Vector → Option Vector → Type 0
HasOne None None = ⊥
HasOne None (Some second) = ⊤
HasOne (Some first) second = ⊤

-- motion of a place: its vectors have 16 bits a coordinate and name one of 16 references, and one of them is there
pub record IsHeld (m : Motion) : Type 0 where
  pub fits : IsMotion m
  pub some : HasOne m.list_0 m.list_1

-- so it is at each place that has motion
abbrev pub AreMotionsHeld : Motions → Type 0
AreMotionsHeld motions = (x y : ℕ) → IfSome (motion_of (motions x y)) IsHeld

-- whether a place has vectors
abbrev pub has_one : Option Vector → Option Vector → Bool
has_one None None = false
has_one None (Some second) = true
has_one (Some first) second = true

-- its motion, where it has vectors
abbrev pub motion_where : Motion → Option Motion
motion_where m = if has_one m.list_0 m.list_1 then Some m else None

-- with the pictures that they point to, by the reference picture lists of the slice of a segment
abbrev pub kept_in : PicturePlan → ℕ → Motion → Option SegmentPlan → Option PlaceMotion
kept_in p address m None = None
kept_in p address m (Some s) = pointing_motion (slice_motion p s address) (motion_where m)

-- the motion that a picture keeps of a place of the unit at an address, by what the words of the place have: its
-- vectors with their reference indices, and the number of its slice segment
unfoldable pub kept_motion : PicturePlan → ℕ → PlaceModes → Motion → Option PlaceMotion
kept_motion p address modes m = kept_in p address m (slice_get p.segments modes.segment)
