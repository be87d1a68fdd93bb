-- A picture while what its loop filters need is gathered.
use Rattle.std.specs.Prelude.{◌≡◌, ℕ, ◌+◌, ◌-◌, ◌<◌, pos, Bool, false, List, slice_index_or, if◌then◌else◌}
use Rattle.ctu_records.specs.Places.{by_place}
use Rattle.picture_filters.specs.declared.filter_place.FilterPlace.{FilterPlace}
use Rattle.picture_filters.specs.Places.{FieldPlaces, places_of}
use Rattle.picture_filters.specs.Units.{FieldUnits, units_of}
use Rattle.slice_types.specs.declared.slice.SliceDeblocking.{SliceDeblocking}
use Rattle.plan_types.specs.declared.segment_plan.SegmentPlan.{SegmentPlan}
use Rattle.plan_types.specs.declared.picture_plan.PicturePlan.{PicturePlan}
use Rattle.boundary_strengths.specs.SpecBoundaryStrengths.{UnitPlace}
use Rattle.spec_picture_filters.specs.SpecLoopFilters.{FilterFormat}
use Rattle.spec_picture_trees.specs.Shapes.{picture_shape}
use Rattle.spec_picture_trees.specs.Places.{first_column, first_row, is_of_unit}
use Rattle.spec_sample_adaptive_offset.specs.declared.unit.OffsetUnit.{OffsetUnit}
use Rattle.spec_picture_trees.specs.SpecSliceData.{PictureShape}
use Rattle.spec_picture_filters.specs.Data.{FilterData}
use Rattle.spec_picture_filters.specs.Units.{coded_near, place_of, slice_address}
use Rattle.picture_layout.specs.declared.coding_tree_unit.CodingTreeUnit.{CodingTreeUnit}

-- a planned picture, what is known of its places, and the offsets of its units
pub record Filtering : Type 0 where
  pub plan : PicturePlan
  pub places : FieldPlaces
  pub units : FieldUnits

-- the places and units of a picture of a format
pub record Viewed : Type 0 where
  pub format : FilterFormat
  pub places : FieldPlaces
  pub units : FieldUnits

-- whether places are coded
abbrev pub coded_part : (ℕ → ℕ → FilterPlace) → ℕ → ℕ → Bool
coded_part places x y = (places x y).coded

-- what filters need, by the places and units of fields
abbrev pub gathered : (ℕ → ℕ → FilterPlace) → (ℕ → ℕ → ℕ → OffsetUnit) → FilterData
gathered places units = record { places = λ x y. (places x y).place; coded = coded_part places; units = units }

abbrev pub data_of : Filtering → FilterData
data_of f = gathered (places_of f.places) (units_of f.units)

-- a unit of a slice segment of a picture
pub record IsUnit (p : PicturePlan) (s : SegmentPlan) (unit : CodingTreeUnit) : Type 0 where
  pub layout : unit.layout ≡ picture_shape p.sps p.pps
  pub slice : unit.slice ≡ slice_address p s

-- flags say which places on the left of a unit are coded, and which above it
abbrev pub IsCodedLeft : CodingTreeUnit → (ℕ → ℕ → Bool) → List Bool → Type 0
IsCodedLeft unit coded flags =
    (k : ℕ) → k < 16 → slice_index_or flags k false ≡ coded_near unit.layout unit.address coded 0 (k + 1)

abbrev pub IsCodedAbove : CodingTreeUnit → (ℕ → ℕ → Bool) → List Bool → Type 0
IsCodedAbove unit coded flags =
    (k : ℕ) → k < 16 → slice_index_or flags k false ≡ coded_near unit.layout unit.address coded (k + 1) 0

-- a place of a unit that was read, of 16 rows of 16
abbrev pub read_place : List UnitPlace → ℕ → ℕ → UnitPlace
read_place read x y =
    by_place (record { left_strength = 0; top_strength = 0; coded = false; qp_y = pos 0; kept = false }) read x y

-- what is kept of a place of a slice
abbrev pub filter_place : SliceDeblocking → UnitPlace → FilterPlace
filter_place slice place = record { place = place_of slice place; coded = place.coded }

-- the places of a unit over those of the picture
unfoldable pub filter_places_laid : PictureShape → ℕ → SliceDeblocking → (ℕ → ℕ → UnitPlace) → (ℕ → ℕ → FilterPlace) → ℕ
    → ℕ → FilterPlace
filter_places_laid picture address slice read places x y =
    if is_of_unit picture address x y
    then filter_place slice (read (x - first_column picture address) (y - first_row picture address))
    else places x y
