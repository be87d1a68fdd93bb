-- A slice segment of a planned picture that is in range (7.4.7.1, 8.3.4).
use Rattle.std.specs.Prelude.{◌≡◌, ℕ, ◌+◌, ◌-◌, ◌/◌, ◌<◌, ◌≤◌, true, IfSome, drop, length}
use Rattle.header_types.specs.SequenceParameterSets.{size_in_ctbs, width_in_ctbs}
use Rattle.slice_types.specs.SliceHeaders.{IsSliceHeader}
use Rattle.plan_types.specs.declared.picture_plan.PicturePlan.{PicturePlan}
use Rattle.plan_types.specs.declared.segment_plan.SegmentPlan.{SegmentPlan}
use Rattle.plan_types.specs.Segments.{address_of, begins_at}
use Rattle.spec_picture_plan.specs.Closing.{row_before}
use Rattle.plan_laws.specs.Plans.{AreReferences}

-- it begins before the next one, its slice at it or at one before it; its references are to pictures of the buffer; and
-- with entropy coding sync it has one substream for each row that it has a part of
pub record IsInPlace (p : PicturePlan) (k : ℕ) (s : SegmentPlan) : Type 0 where
  pub header : IsSliceHeader s.header
  pub rise : address_of s < begins_at (size_in_ctbs p.sps) (drop (k + 1) p.segments)
  pub slice : s.slice ≤ k
  pub references : IfSome s.lists (AreReferences (length p.rps.marks))
  pub rows : p.pps.prediction.entropy_coding_sync_enabled_flag ≡ true
      → length s.substreams
      ≡ row_before (width_in_ctbs p.sps) (begins_at (size_in_ctbs p.sps) (drop (k + 1) p.segments))
      - address_of s / width_in_ctbs p.sps + 1
