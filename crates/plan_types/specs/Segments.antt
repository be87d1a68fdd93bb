-- Where the slice segments of a planned picture begin (7.4.7.1).
use Rattle.std.specs.Prelude.{◌≡◌, ℕ, ◌<◌, List, [], ◌∷◌}
use Rattle.block_geometry.specs.CodingTreeBlocks.{ctb_place}
use Rattle.slice_types.specs.HeaderTypes.{size_in_ctbs}
use Rattle.plan_types.specs.declared.segment_plan.SegmentPlan.{SegmentPlan}
use Rattle.plan_types.specs.declared.picture_plan.PicturePlan.{PicturePlan}

-- slice_segment_address: the address of a segment's first coding tree unit
abbrev pub address_of : SegmentPlan → ℕ
address_of s = s.header.segment.slice_segment_address

-- the place of the scan in which the first of these segments begins, or, where there is none, the picture's end
abbrev pub begins_at : ℕ → List SegmentPlan → ℕ
begins_at size [] = size
begins_at size (s ∷ later) = ctb_place (address_of s)

-- each of these segments begins before the next one, and the last before the picture's end
abbrev pub Rise : ℕ → List SegmentPlan → Type 0
Rise size [] = Unit {0}
Rise size (s ∷ later) = (ctb_place (address_of s) < begins_at size later) × Rise size later

-- the first segment of a picture begins at its first coding tree unit, each later one behind the one before, and all
-- inside the picture
pub record AreInOrder (p : PicturePlan) : Type 0 where
  pub first : begins_at (size_in_ctbs p.sps) p.segments ≡ 0
  pub rise : Rise (size_in_ctbs p.sps) p.segments
