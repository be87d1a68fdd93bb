-- Availability inside a coding tree unit of a planned picture.
use Rattle.std.proofs.Common.{◌≡◌, ◌<◌, ◌≤◌, ℕ, true, Ok, arith}
use Rattle.block_geometry.specs.CodingTreeBlocks.{is_from}
use Rattle.ctu_records.specs.Tree.{Ctu}
use Rattle.header_types.specs.SequenceParameterSets.{IsSps, min_tb_log2}
use Rattle.spec_picture_build.specs.PlanTypes.{PicturePlan}
use Rattle.spec_picture_build.specs.PlanTypes.{SegmentPlan}
use Rattle.spec_cabac.specs.Bins.{State, read}
use Rattle.spec_picture_build.specs.SpecPictureTrees.{in_places, picture_shape, segment_syntax, slice_syntax}
use Rattle.spec_slice_data.specs.Segment.{Between, SegmentShape, unit_at}
use Rattle.spec_slice_data.specs.declared.syntax.End.{End}
use Rattle.unit_laws.proofs.Beside.{least_block, same_width}
use Rattle.unit_laws.proofs.InOrder.{unit_at_scanned}
use Rattle.unit_laws.proofs.Inside.{available_inside}
use Rattle.unit_laws.proofs.Laid.{unit_at_laid}
use Rattle.unit_laws.specs.Laid.{laid_items}
use Rattle.unit_laws.specs.Order.{AreAvailable, coding_squares}

unit_small : (p : PicturePlan) → IsSps p.sps → (picture_shape p.sps p.pps).size ≤ 4
unfolding picture_shape
unit_small p sps = omega (arith, sps.blocks.greatest_ctb)

coding_small : (p : PicturePlan) (s : SegmentPlan) → IsSps p.sps
    → (segment_syntax p s).log2_min_coding ≤ (picture_shape p.sps p.pps).size
unfolding picture_shape slice_syntax
coding_small p s sps = omega arith

transform_small : (p : PicturePlan) (s : SegmentPlan) → IsSps p.sps
    → in_places (min_tb_log2 p.sps.blocks) ≤ (segment_syntax p s).log2_min_coding
unfolding slice_syntax
transform_small p s sps = omega (arith, sps.blocks.min_tb)

pub inside_of_unit : (p : PicturePlan) (s : SegmentPlan) (segment : SegmentShape) (address : ℕ) (between : Between)
    (u v : State) (unit : Ctu × End)
    → IsSps p.sps → is_from segment.slice address ≡ true
    → read (unit_at (segment_syntax p s) (picture_shape p.sps p.pps) segment address between) u ≡ Ok (unit, v)
    → AreAvailable (picture_shape p.sps p.pps) (in_places (min_tb_log2 p.sps.blocks)) segment.slice address
    (coding_squares unit.0.items)
inside_of_unit p s segment address between u v unit sps from is =
    available_inside (picture_shape p.sps p.pps) (in_places (min_tb_log2 p.sps.blocks)) segment.slice address
    (least_block p sps) (same_width p segment.slice sps) (segment_syntax p s).log2_min_coding
    (coding_squares unit.0.items) (transform_small p s sps) (unit_small p sps) from
    ((unit_at_scanned (segment_syntax p s) (picture_shape p.sps p.pps) segment address between (unit_small p sps)
    (coding_small p s sps)).gives u v unit is)

transform_least : (p : PicturePlan) (s : SegmentPlan) → IsSps p.sps
    → (segment_syntax p s).log2_min_transform < (segment_syntax p s).log2_min_coding
unfolding slice_syntax
transform_least p s sps = omega (arith, sps.blocks.min_tb)

transform_most : (p : PicturePlan) (s : SegmentPlan)
    → (segment_syntax p s).log2_min_transform ≤ (segment_syntax p s).log2_max_transform
unfolding slice_syntax
transform_most p s = omega arith

transform_is : (p : PicturePlan) (s : SegmentPlan)
    → in_places (min_tb_log2 p.sps.blocks) ≤ (segment_syntax p s).log2_min_transform
unfolding slice_syntax
transform_is p s = omega arith

pub laid_of_unit : (p : PicturePlan) (s : SegmentPlan) (segment : SegmentShape) (address : ℕ) (between : Between)
    (u v : State) (unit : Ctu × End)
    → IsSps p.sps → is_from segment.slice address ≡ true
    → read (unit_at (segment_syntax p s) (picture_shape p.sps p.pps) segment address between) u ≡ Ok (unit, v)
    → AreAvailable (picture_shape p.sps p.pps) (in_places (min_tb_log2 p.sps.blocks)) segment.slice address
    (laid_items unit.0.items).squares
laid_of_unit p s segment address between u v unit sps from is =
    available_inside (picture_shape p.sps p.pps) (in_places (min_tb_log2 p.sps.blocks)) segment.slice address
    (least_block p sps) (same_width p segment.slice sps) (segment_syntax p s).log2_min_transform
    (laid_items unit.0.items).squares (transform_is p s) (unit_small p sps) from
    ((unit_at_laid (segment_syntax p s) (picture_shape p.sps p.pps) segment address between (unit_small p sps)
    (coding_small p s sps) (transform_least p s sps) (transform_most p s)).gives u v unit is)
