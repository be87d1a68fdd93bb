-- What a coding tree unit gives the loop filters of its picture.
use Rattle.std.specs.Prelude.{◌≡◌, ℕ, ◌<◌, ◌==◌, ◌&&◌, nat_lt, pos, Bool, false, List, slice_index_or}
use Rattle.std.specs.Prelude.{if◌then◌else◌}
use Rattle.ctu_records.specs.Tree.{Ctu}
use Rattle.picture_filters.specs.declared.given.UnitFilters.{UnitFilters}
use Rattle.picture_filters.specs.Filtering.{read_place}
use Rattle.picture_filters.specs.Units.{first_unit}
use Rattle.plan_types.specs.declared.picture_plan.PicturePlan.{PicturePlan}
use Rattle.plan_types.specs.declared.segment_plan.SegmentPlan.{SegmentPlan}
use Rattle.slice_types.specs.declared.slice.SliceDeblocking.{SliceDeblocking}
use Rattle.spec_picture_filters.specs.Units.{places_read, unit_read}
use Rattle.spec_picture_filters.specs.SpecPictureMotion.{Motions}
use Rattle.spec_picture_trees.specs.Places.{unit_places}
use Rattle.spec_picture_trees.specs.Shapes.{picture_shape}
use Rattle.spec_sample_adaptive_offset.specs.declared.unit.OffsetUnit.{OffsetUnit}
use Rattle.spec_picture_trees.specs.SpecSliceData.{PictureShape, column_of, row_of}

-- deblocking without offsets
abbrev pub no_deblocking : SliceDeblocking
no_deblocking = record {
  deblocking_filter_override_flag = false;
  slice_deblocking_filter_disabled_flag = false;
  slice_beta_offset_div2 = pos 0;
  slice_tc_offset_div2 = pos 0;
}

-- that of the unit at an address, a unit of a slice segment, by the motion of the picture behind it and by the places
-- that are coded before it
pub record IsGiven (p : PicturePlan) (s : SegmentPlan) (address : ℕ) (ctu : Ctu) (motions : Motions)
    (coded : ℕ → ℕ → Bool) (given : UnitFilters) : Type 0 where
  pub places : (x y : ℕ) → x < unit_places (picture_shape p.sps p.pps) → y < unit_places (picture_shape p.sps p.pps)
      → read_place given.places x y ≡ places_read p s address ctu.items motions coded x y
  pub deblocking : given.deblocking ≡ s.header.slice.deblocking
  pub offsets : (c : ℕ) → c < 3 → slice_index_or given.offsets c first_unit ≡ unit_read p s ctu.sao c

-- the components of the unit at an address over those of a picture of so many rows of units
unfoldable pub offsets_laid : PictureShape → ℕ → ℕ → List OffsetUnit → (ℕ → ℕ → ℕ → OffsetUnit) → ℕ → ℕ → ℕ → OffsetUnit
offsets_laid picture address rows offsets units c column row =
    if (nat_lt c 3 && nat_lt (row_of picture address) rows)
    && (column == column_of picture address && row == row_of picture address)
    then slice_index_or offsets c first_unit
    else units c column row
