-- The motion of a picture by column and row of places, each a block of 4x4 luma samples (8.5.3.2).
use Rattle.std.specs.Prelude.{◌≡◌, ℕ, ◌+◌, ◌*◌, ◌&&◌, nat_lt, List, length, slice_index_or, Option, None, map}
use Rattle.std.specs.Prelude.{if◌then◌else◌}
use Rattle.std.specs.List.{range_with_len}
use Rattle.place_grid.specs.Cells.{Cells}
use Rattle.picture_buffer.specs.declared.packed.PackedMotion.{PackedMotion}
use Rattle.picture_buffer.specs.declared.place_motion.PlaceMotion.{PlaceMotion}
use Rattle.picture_buffer.specs.declared.targets.OwnTargets.{OwnTargets}
use Rattle.picture_buffer.specs.declared.targets.Target.{Target}
use Rattle.picture_buffer.specs.Packed.{no_motion, no_own, unpacked}

-- a picture's places, row after row: None where a place is predicted in intra mode
pub record FieldPlaces : Type 0 where
  pub across : ℕ
  pub down : ℕ
  pub places : List (Option PlaceMotion)

-- the motion of a place that is packed, by its number
abbrev pub unpacked_place : List Target → List OwnTargets → List PackedMotion → ℕ → Option PlaceMotion
unpacked_place targets own places k =
    unpacked targets (slice_index_or own k no_own) (slice_index_or places k no_motion)

-- the motion of places that are packed
abbrev pub unpacked_places : List Target → Cells OwnTargets → Cells PackedMotion → FieldPlaces
unpacked_places targets own grid = record {
  across = grid.across;
  down = grid.down;
  places = map (unpacked_place targets own.cells grid.cells) (range_with_len 0 (length grid.cells));
}

-- the motion of a place; None outside the picture
unfoldable pub motions_of : FieldPlaces → ℕ → ℕ → Option PlaceMotion
motions_of field x y =
    if nat_lt x field.across && nat_lt y field.down then slice_index_or field.places (field.across * y + x) None
    else None

-- a field of so many places across and down
pub record HasPlaces (field : FieldPlaces) (across down : ℕ) : Type 0 where
  pub columns : field.across ≡ across
  pub rows : field.down ≡ down
