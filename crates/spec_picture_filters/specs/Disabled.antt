-- Pictures without loop filters.
use Rattle.std.specs.Prelude.{◌≡◌, true, List, All}
use Rattle.spec_picture_motion.specs.PlanTypes.{SegmentPlan}
use Rattle.spec_picture_motion.specs.SpecPictureTrees.{TreeUnit}
use Rattle.spec_picture_motion.specs.SpecSliceData.{no_sao}

-- slice_deblocking_filter_disabled_flag of a segment's slice is 1
abbrev pub IsDisabled : SegmentPlan → Type 0
IsDisabled s = s.header.slice.deblocking.slice_deblocking_filter_disabled_flag ≡ true

-- all segments are such
abbrev pub AreDisabled : List SegmentPlan → Type 0
AreDisabled segments = All IsDisabled segments

-- a unit without sample adaptive offset
abbrev pub HasNoOffset : TreeUnit → Type 0
HasNoOffset unit = unit.read.sao ≡ no_sao
