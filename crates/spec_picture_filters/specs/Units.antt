-- What a coding tree unit adds to what the loop filters of its picture need (8.7.2, 8.7.3).
use Rattle.std.specs.Prelude.{ℕ, ◌+◌, ◌-◌, ◌==◌, ℤ, pos, negsuc, Bool, false, ◌&&◌, ◌||◌, nat_le, nat_lt, List}
use Rattle.std.specs.Prelude.{Option}
use Rattle.std.specs.Prelude.{Some, None, if◌then◌else◌}
use Rattle.spec_picture_motion.specs.SpecArithmetic.{clip3}
use Rattle.spec_loop_filters.specs.BlockGeometry.{is_from}
use Rattle.spec_boundary_strengths.specs.CtuRecords.{Item}
use Rattle.spec_boundary_strengths.specs.CtuRecords.{ComponentOffset}
use Rattle.spec_boundary_strengths.specs.CtuRecords.{Sao}
use Rattle.spec_boundary_strengths.specs.CtuRecords.{Ctu}
use Rattle.spec_picture_motion.specs.SliceTypes.{SliceDeblocking}
use Rattle.spec_picture_motion.specs.HeaderTypes.{PcmFormat}
use Rattle.spec_picture_motion.specs.HeaderTypes.{height_in_ctbs}
use Rattle.spec_picture_motion.specs.PlanTypes.{SegmentPlan}
use Rattle.spec_picture_motion.specs.PlanTypes.{PicturePlan}
use Rattle.spec_picture_motion.specs.PictureBuffer.{PlaceMotion}
use Rattle.spec_boundary_strengths.specs.declared.place.UnitPlace.{UnitPlace}
use Rattle.spec_boundary_strengths.specs.Places.{unit_place}
use Rattle.spec_boundary_strengths.specs.Strengths.{Beside}
use Rattle.spec_loop_filters.specs.SpecDeblocking.{Place}
use Rattle.spec_picture_motion.specs.SpecPictureTrees.{TreeUnit}
use Rattle.spec_picture_motion.specs.PlanTypes.{address_of}
use Rattle.spec_picture_motion.specs.SpecPictureTrees.{picture_shape, qp_bd_offset, slice_start}
use Rattle.spec_picture_motion.specs.SpecPictureTrees.{first_column, first_row, is_of_unit, is_there}
use Rattle.spec_picture_motion.specs.Field.{Motions}
use Rattle.spec_loop_filters.specs.SpecSampleAdaptiveOffset.{OffsetUnit}
use Rattle.spec_picture_motion.specs.SpecSliceData.{PictureShape, column_of, row_of}
use Rattle.spec_picture_filters.specs.Data.{FilterData}

-- the address of the first unit of a segment's slice
abbrev pub slice_address : PicturePlan → SegmentPlan → ℕ
slice_address p s = address_of (slice_start p s)

-- slice_loop_filter_across_slices_enabled_flag of a segment's slice
abbrev pub is_across : SegmentPlan → Bool
is_across s = s.header.slice.slice_loop_filter_across_slices_enabled_flag

-- whether the edges to a unit that was read before are filtered: it is of the same slice, or edges to others are too
abbrev pub is_reached : PicturePlan → SegmentPlan → ℕ → Bool
is_reached p s before = is_from (slice_address p s) before || is_across s

-- whether the left side of the unit at an address is filtered, and its top: filterEdgeFlag (8.7.2.1)
unfoldable pub is_left_filtered : PicturePlan → SegmentPlan → ℕ → Bool
is_left_filtered p s address =
    nat_lt 0 (column_of (picture_shape p.sps p.pps) address) && is_reached p s (address - 1)

-- that of its top
unfoldable pub is_top_filtered : PicturePlan → SegmentPlan → ℕ → Bool
is_top_filtered p s address =
    nat_le (picture_shape p.sps p.pps).width address && is_reached p s (address - (picture_shape p.sps p.pps).width)

-- the motion of a place that is counted from 1 at a unit's first place, and whether it is coded
unfoldable pub motion_near : PictureShape → ℕ → Motions → ℕ → ℕ → Option PlaceMotion
motion_near picture address motions column row =
    if is_there picture address column row
    then motions (first_column picture address + column - 1) (first_row picture address + row - 1)
    else None

-- whether a place beside the unit is coded
unfoldable pub coded_near : PictureShape → ℕ → (ℕ → ℕ → Bool) → ℕ → ℕ → Bool
coded_near picture address coded column row =
    if is_there picture address column row
    then coded (first_column picture address + column - 1) (first_row picture address + row - 1)
    else false

-- what the strengths of a unit of a slice segment depend on, by its address, the motion of the picture behind the unit,
-- and the places before it
unfoldable pub beside_unit : PicturePlan → SegmentPlan → ℕ → Motions → (ℕ → ℕ → Bool) → Beside
beside_unit p s address motions coded = record {
  motion = motion_near (picture_shape p.sps p.pps) address motions;
  coded = coded_near (picture_shape p.sps p.pps) address coded;
  left = is_left_filtered p s address;
  top = is_top_filtered p s address;
  disabled = s.header.slice.deblocking.slice_deblocking_filter_disabled_flag;
}

-- pcm_loop_filter_disabled_flag; 0 where it isn't coded
abbrev pub pcm_disabled : Option PcmFormat → Bool
pcm_disabled None = false
pcm_disabled (Some pcm) = pcm.pcm_loop_filter_disabled_flag

-- slice_beta_offset_div2 and slice_tc_offset_div2: from -6 to 6 (7.4.7.1)
abbrev pub held_offset : ℤ → ℤ
held_offset offset = clip3 (negsuc 5) (pos 6) offset

-- a place of a unit in a slice
unfoldable pub place_of : SliceDeblocking → UnitPlace → Place
place_of slice place = record {
  left_strength = place.left_strength;
  top_strength = place.top_strength;
  qp_y = place.qp_y;
  kept = place.kept;
  slice_beta_offset_div2 = held_offset slice.slice_beta_offset_div2;
  slice_tc_offset_div2 = held_offset slice.slice_tc_offset_div2;
}

-- the places of a unit, counted from 0 at its first one
unfoldable pub places_read : PicturePlan → SegmentPlan → ℕ → List Item → Motions → (ℕ → ℕ → Bool) → ℕ → ℕ → UnitPlace
places_read p s address items motions coded x y =
    unit_place (beside_unit p s address motions coded) (pcm_disabled p.sps.tools.pcm) (qp_bd_offset p.sps) items x y

-- the places of the unit at an address over those of the picture
unfoldable pub places_laid : PictureShape → ℕ → SliceDeblocking → (ℕ → ℕ → UnitPlace) → (ℕ → ℕ → Place) → ℕ → ℕ → Place
places_laid picture address slice read places x y =
    if is_of_unit picture address x y
    then place_of slice (read (x - first_column picture address) (y - first_row picture address))
    else places x y

-- the same for whether they are coded
unfoldable pub coded_laid : PictureShape → ℕ → (ℕ → ℕ → UnitPlace) → (ℕ → ℕ → Bool) → ℕ → ℕ → Bool
coded_laid picture address read coded x y =
    if is_of_unit picture address x y
    then (read (x - first_column picture address) (y - first_row picture address)).coded
    else coded x y

-- the offset of a component: luma, Cb and Cr, counted 0, 1 and 2
abbrev pub offset_of : Sao → ℕ → ComponentOffset
offset_of sao c = if c == 0 then sao.luma else (if c == 1 then sao.cb else sao.cr)

-- what sample adaptive offset asks of a unit's component
abbrev pub unit_read : PicturePlan → SegmentPlan → Sao → ℕ → OffsetUnit
unit_read p s sao c = record { offset = offset_of sao c; slice = slice_address p s; across = is_across s }

-- whether a component of a unit is one of the unit at an address, which the picture has
abbrev pub is_component : PicturePlan → ℕ → ℕ → ℕ → ℕ → Bool
is_component p address c column row =
    (nat_lt c 3 && nat_lt (row_of (picture_shape p.sps p.pps) address) (height_in_ctbs p.sps))
    && (column == column_of (picture_shape p.sps p.pps) address && row == row_of (picture_shape p.sps p.pps) address)

-- the components of the unit at an address over those of the picture
unfoldable pub units_laid : PicturePlan → SegmentPlan → ℕ → Sao → (ℕ → ℕ → ℕ → OffsetUnit) → ℕ → ℕ → ℕ → OffsetUnit
units_laid p s address sao units c column row =
    if is_component p address c column row then unit_read p s sao c else units c column row

-- with what was read of the unit at an address, a unit of a slice segment, by the motion of the picture behind it
unfoldable pub read_added : PicturePlan → SegmentPlan → ℕ → Ctu → Motions → FilterData → FilterData
read_added p s address ctu motions gathered =
    let picture : PictureShape = picture_shape p.sps p.pps in
    let read : ℕ → ℕ → UnitPlace = places_read p s address ctu.items motions gathered.coded in
    record {
      places = places_laid picture address s.header.slice.deblocking read gathered.places;
      coded = coded_laid picture address read gathered.coded;
      units = units_laid p s address ctu.sao gathered.units;
    }

-- with a unit of a slice segment
abbrev pub unit_added : PicturePlan → SegmentPlan → TreeUnit → Motions → FilterData → FilterData
unit_added p s unit motions gathered = read_added p s unit.ctu unit.read motions gathered
