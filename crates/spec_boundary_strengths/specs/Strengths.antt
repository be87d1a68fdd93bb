-- The boundary filtering strengths of a coding tree unit (8.7.2.4).
use Rattle.std.specs.Prelude.{ℕ, ◌+◌, ◌-◌, ◌%◌, ◌==◌, Bool, true, false, not, ◌&&◌, ◌||◌, List, Option, Some, None}
use Rattle.std.specs.Prelude.{if◌then◌else◌}
use Rattle.std.specs.List.{fold}
use Rattle.ctu_records.specs.declared.item.Item.{Item}
use Rattle.ctu_records.specs.declared.item.Item.TheVariants.{Transform}
use Rattle.ctu_records.specs.Tree.{laid}
use Rattle.picture_buffer.specs.declared.place_motion.PlaceMotion.{PlaceMotion}
use Rattle.spec_boundary_strengths.specs.Motion.{motion_strength}
use Rattle.spec_boundary_strengths.specs.Edges.{is_transform_left, is_transform_top, is_prediction_left}
use Rattle.spec_boundary_strengths.specs.Edges.{is_prediction_top}

-- what a unit's strengths depend on, apart from what was read of it. Columns and rows of places are counted from 1 at
-- the unit's first place: column 0 stands left of the unit, row 0 above it. The motion of a place, None where it is
-- predicted in intra mode; whether the luma transform block of a place in column 0, or in row 0, has levels that aren't
-- 0; whether the unit's left side is filtered, and its top; and slice_deblocking_filter_disabled_flag of its slice
pub record Beside : Type 0 where
  pub motion : ℕ → ℕ → Option PlaceMotion
  pub coded : ℕ → ℕ → Bool
  pub left : Bool
  pub top : Bool
  pub disabled : Bool

-- cbf_luma by place, behind an item more
abbrev pub coded_laid : (ℕ → ℕ → Bool) → Item → ℕ → ℕ → Bool
coded_laid places (Transform unit) = laid unit.square unit.cbf_luma places
coded_laid places other = places

-- no place is coded
abbrev pub nowhere : ℕ → ℕ → Bool
nowhere x y = false

-- cbf_luma of the transform unit that has a place of the unit, counted from 0; false where there is none
unfoldable pub coded_at : List Item → ℕ → ℕ → Bool
coded_at items = fold coded_laid nowhere items

-- the same of a place of the unit or beside it, counted from 1
unfoldable pub coded_around : Beside → List Item → ℕ → ℕ → Bool
coded_around beside items column row =
    if column == 0 || row == 0 then beside.coded column row else coded_at items (column - 1) (row - 1)

-- bS of an edge between the motion on both sides, at a transform edge where one of them is coded, or not
unfoldable pub strength : Bool → Option PlaceMotion → Option PlaceMotion → ℕ
strength coded None None = 2
strength coded None (Some q) = 2
strength coded (Some p) None = 2
strength coded (Some p) (Some q) = if coded then 1 else motion_strength p q

-- whether an edge before a column of places, or above a row of them, is filtered: it is on the grid of eight samples,
-- and the unit's own side is filtered
abbrev pub is_filtered : Bool → Bool → ℕ → Bool
is_filtered disabled side line = not disabled && (line % 2 == 0 && (if line == 0 then side else true))

-- bS of the left side of a place, counted from 0
unfoldable pub left_strength : Beside → List Item → ℕ → ℕ → ℕ
left_strength beside items x y =
    if is_filtered beside.disabled beside.left x && (is_transform_left items x y || is_prediction_left items x y)
    then strength (is_transform_left items x y
    && (coded_around beside items x (y + 1) || coded_around beside items (x + 1) (y + 1)))
    (beside.motion x (y + 1)) (beside.motion (x + 1) (y + 1))
    else 0

-- bS of its top
unfoldable pub top_strength : Beside → List Item → ℕ → ℕ → ℕ
top_strength beside items x y =
    if is_filtered beside.disabled beside.top y && (is_transform_top items x y || is_prediction_top items x y)
    then strength (is_transform_top items x y
    && (coded_around beside items (x + 1) y || coded_around beside items (x + 1) (y + 1)))
    (beside.motion (x + 1) y) (beside.motion (x + 1) (y + 1))
    else 0
