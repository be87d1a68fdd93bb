-- The motion that a picture keeps of a place, by the two words of the place.
use Rattle.std.specs.Prelude.{ℕ, ◌≡◌, Option, Some, None, slice_get, slice_index}
use Rattle.plan_types.specs.declared.picture_plan.PicturePlan.{PicturePlan}
use Rattle.plan_types.specs.declared.segment_plan.SegmentPlan.{SegmentPlan}
use Rattle.spec_motion.specs.declared.slice_motion.SliceMotion.{SliceMotion}
use Rattle.spec_motion.specs.declared.vectors.Motion.{Motion}
use Rattle.picture_buffer.specs.declared.place_motion.PlaceMotion.{PlaceMotion}
use Rattle.spec_picture_motion.specs.Field.{pointing_motion}
use Rattle.spec_picture_motion.specs.Slices.{slice_motion}
use Rattle.sample_words.specs.Values.{modes_in, motion_in}
use Rattle.row_above_laws.specs.FlightValueLaws.{kept_motion}
use Rattle.taken_pictures.specs.declared.kept_places.SegmentMotion.{SegmentMotion}
use Rattle.taken_pictures.specs.declared.place_rows.PlaceRow.{PlaceRow}

-- what the motion of the unit at an address depends on, in the slice of a segment, where the plan has that
abbrev pub motion_in_segment : PicturePlan → ℕ → Option SegmentPlan → Option SliceMotion
motion_in_segment p address None = None
motion_in_segment p address (Some s) = Some (slice_motion p s address)

-- motion with the pictures that it refers to, where the slice is known
abbrev pub pointing_in : Option SliceMotion → Option Motion → Option PlaceMotion
pointing_in None motion = None
pointing_in (Some slice) motion = pointing_motion slice motion

-- it is that of the unit at an address, in the segment with its number
abbrev pub IsOfSegment : PicturePlan → ℕ → SegmentMotion → Type 0
IsOfSegment p address m = m.slice ≡ motion_in_segment p address (slice_get p.segments m.number)

-- the motion that a picture keeps of a place of the unit at an address, by the word of the place's vectors and that of
-- its modes
abbrev pub kept_by : PicturePlan → ℕ → ℕ → ℕ → Option PlaceMotion
kept_by p address vectors modes = kept_motion p address (modes_in modes) (motion_in vectors modes)

-- that of one of a row of places
abbrev pub kept_at : PicturePlan → ℕ → PlaceRow → ℕ → Option PlaceMotion
kept_at p address row k = kept_by p address (slice_index row.vectors k) (slice_index row.modes k)
