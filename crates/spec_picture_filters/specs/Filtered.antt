-- The samples of a picture behind its loop filters, by what was read of its coding tree units (8.7).
use Rattle.std.specs.Prelude.{◌+◌, List, Option, Some, None, slice_get}
use Rattle.std.specs.List.{fold}
use Rattle.spec_picture_motion.specs.HeaderTypes.{ctb_size}
use Rattle.spec_picture_motion.specs.PlanTypes.{SegmentPlan}
use Rattle.spec_picture_motion.specs.PlanTypes.{PicturePlan}
use Rattle.spec_loop_filters.specs.declared.format.FilterFormat.{FilterFormat}
use Rattle.spec_loop_filters.specs.Filters.{LoopFilters, Samples, final_samples}
use Rattle.spec_picture_motion.specs.SpecPictureTrees.{TreeUnit}
use Rattle.spec_picture_motion.specs.Derived.{References, unit_added as motion_added}
use Rattle.spec_picture_motion.specs.Field.{Motions, no_motions}
use Rattle.spec_picture_filters.specs.Data.{FilterData, no_data}
use Rattle.spec_picture_filters.specs.Units.{unit_added}

-- the motion of a picture behind a unit, and what its loop filters need
pub record Behind : Type 0 where
  pub motions : Motions
  pub gathered : FilterData

-- motion and data behind a unit more
unfoldable pub both_added : PicturePlan → SegmentPlan → TreeUnit → Motions → FilterData → Behind
both_added p s unit motions gathered = record { motions = motions; gathered = unit_added p s unit motions gathered }

-- the same of a segment, where the plan has it
abbrev pub added_in : References → PicturePlan → Option SegmentPlan → TreeUnit → Behind → Behind
added_in pictures p None unit behind = behind
added_in pictures p (Some s) unit behind =
    both_added p s unit (motion_added pictures p s unit behind.motions) behind.gathered

-- behind the next unit, by the number of its segment
abbrev pub with_unit : References → PicturePlan → Behind → TreeUnit → Behind
with_unit pictures p behind unit = added_in pictures p (slice_get p.segments unit.segment) unit behind

-- before the first unit
abbrev pub before_units : Behind
before_units = record { motions = no_motions; gathered = no_data }

-- behind all units
unfoldable pub units_behind : References → PicturePlan → List TreeUnit → Behind
units_behind pictures p units = fold (with_unit pictures p) before_units units

-- what the loop filters need behind these units, which were read one after the other
abbrev pub units_filtered : References → PicturePlan → List TreeUnit → FilterData
units_filtered pictures p units = (units_behind pictures p units).gathered

-- the sides of a picture, its bit depths, and what its parameter sets say
unfoldable pub filter_format : PicturePlan → FilterFormat
filter_format p = record {
  width = p.sps.format.pic_width_in_luma_samples;
  height = p.sps.format.pic_height_in_luma_samples;
  ctb_size = ctb_size p.sps;
  luma_depth = p.sps.format.bit_depth_luma_minus8 + 8;
  chroma_depth = p.sps.format.bit_depth_chroma_minus8 + 8;
  pps_cb_qp_offset = p.pps.quantization.pps_cb_qp_offset;
  pps_cr_qp_offset = p.pps.quantization.pps_cr_qp_offset;
}

-- the loop filters of a picture
abbrev pub loop_filters : PicturePlan → FilterData → LoopFilters
loop_filters p gathered = record { format = filter_format p; places = gathered.places; units = gathered.units }

-- the samples of a picture behind them
unfoldable pub filtered : PicturePlan → FilterData → Samples → Samples
filtered p gathered samples = final_samples (loop_filters p gathered) samples
