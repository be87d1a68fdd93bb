-- The slice segments of a picture, gone through from the first one on.
use Rattle.std.specs.Prelude.{◌≡◌, ℕ, ◌+◌, ◌≤◌, true, Option, Some, drop, slice_index_or}
use Rattle.header_types.specs.SequenceParameterSets.{size_in_ctbs}
use Rattle.plan_types.specs.declared.segment_plan.SegmentPlan.{SegmentPlan}
use Rattle.plan_types.specs.declared.picture_plan.PicturePlan.{PicturePlan}
use Rattle.spec_picture_trees.specs.Picture.{SegmentAt, segment_at}
use Rattle.spec_known_units.specs.Known.{is_in, picture_segments, segment_having, segments_from}

-- a picture, and the segment that has the unit at which its reader stands
pub record SegmentsOf : Type 0 where
  pub plan : PicturePlan
  pub current : Option SegmentAt

-- the segment of a picture with this number, which begins at a place
abbrev pub next_segment : PicturePlan → ℕ → ℕ → SegmentPlan → SegmentAt
next_segment p number first s =
    segment_at p number first (slice_index_or p.segments number s) (drop (number + 1) p.segments)

-- the units from a place on are those of the segments from this number on, the first of which begins there
pub record IsReached (p : PicturePlan) (number first : ℕ) : Type 0 where
  pub inside : first ≤ size_in_ctbs p.sps
  pub rest : (address : ℕ) → first ≤ address
      → segment_having (picture_segments p) address
      ≡ segment_having (segments_from p number first (drop number p.segments)) address

-- a segment of a picture: it is the one that has each of its units
pub record IsCurrent (p : PicturePlan) (at : SegmentAt) : Type 0 where
  pub reached : IsReached p at.number at.shape.first
  pub has : (address : ℕ) → is_in at address ≡ true → segment_having (picture_segments p) address ≡ Some at
