-- What is known beside a unit, and what the marks of its places say.
use Rattle.std.specs.Prelude.{◌≡◌, ℕ, ◌-◌, ◌<◌, ◌==◌, Bool, false, List, Option, slice_index_or}
use Rattle.std.specs.Prelude.{if◌then◌else◌}
use Rattle.ctu_records.specs.declared.item.Item.{Item}
use Rattle.ctu_records.specs.Places.{by_place}
use Rattle.spec_boundary_strengths.specs.PictureBuffer.{PlaceMotion}
use Rattle.spec_boundary_strengths.specs.Edges.{is_transform_left, is_transform_top, is_prediction_left}
use Rattle.spec_boundary_strengths.specs.Edges.{is_prediction_top}
use Rattle.spec_boundary_strengths.specs.Places.{kept_at}
use Rattle.spec_boundary_strengths.specs.Strengths.{Beside, coded_at}
use Rattle.boundary_strengths.specs.declared.marks.Marks.{Marks}
use Rattle.boundary_strengths.specs.declared.sides.UnitSides.{UnitSides}

-- whether a place beside a unit is coded, column and row counted from 1
unfoldable pub coded_beside : UnitSides → ℕ → ℕ → Bool
coded_beside sides column row =
    if column == 0 then slice_index_or sides.coded_left (row - 1) false
    else slice_index_or sides.coded_above (column - 1) false

-- what is known beside a unit, with the motion of its places
abbrev pub beside_of : UnitSides → (ℕ → ℕ → Option PlaceMotion) → Beside
beside_of sides motion = let s : UnitSides = sides in record {
  motion = motion;
  coded = coded_beside s;
  left = s.filter_left;
  top = s.filter_top;
  disabled = s.deblocking_disabled;
}

-- marks by place say what items do
pub record AreMarked (pcm_disabled : Bool) (items : List Item) (marks : Marks) : Type 0 where
  pub transform_left : (i j : ℕ) → i < 16 → j < 16
      → by_place false marks.transform_left i j ≡ is_transform_left items i j
  pub transform_top : (i j : ℕ) → i < 16 → j < 16 → by_place false marks.transform_top i j ≡ is_transform_top items i j
  pub prediction_left : (i j : ℕ) → i < 16 → j < 16
      → by_place false marks.prediction_left i j ≡ is_prediction_left items i j
  pub prediction_top : (i j : ℕ) → i < 16 → j < 16
      → by_place false marks.prediction_top i j ≡ is_prediction_top items i j
  pub coded : (i j : ℕ) → i < 16 → j < 16 → by_place false marks.coded i j ≡ coded_at items i j
  pub kept : (i j : ℕ) → i < 16 → j < 16 → by_place false marks.kept i j ≡ kept_at pcm_disabled items i j
