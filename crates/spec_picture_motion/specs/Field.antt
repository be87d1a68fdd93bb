-- The motion of a picture by place, what of it is known beside a coding tree unit (6.4.1, 6.4.2), and what a later
-- picture takes of it (8.5.3.2.9). A place is a block of 4x4 luma samples.
use Rattle.std.specs.Prelude.{ℕ, ◌+◌, ◌-◌, ◌*◌, ◌==◌, ◌&&◌, ◌||◌, nat_le, nat_lt, Bool, Option, Some, None}
use Rattle.std.specs.Prelude.{if◌then◌else◌}
use Rattle.picture_buffer.specs.SpecMotion.{Collocated}
use Rattle.picture_buffer.specs.SpecMotion.{CollocatedVector}
use Rattle.picture_buffer.specs.SpecMotion.{SliceMotion}
use Rattle.picture_buffer.specs.SpecMotion.{Motion}
use Rattle.picture_buffer.specs.SpecMotion.{Vector}
use Rattle.picture_buffer.specs.SpecMotion.{Beneath, Known, reference_in}
use Rattle.picture_buffer.specs.declared.place_motion.PlaceMotion.{PlaceMotion}
use Rattle.picture_buffer.specs.declared.place_motion.PlaceVector.{PlaceVector}
use Rattle.spec_picture_trees.specs.Places.{first_column, first_row, is_available, is_of_unit, unit_places}
use Rattle.spec_picture_trees.specs.SpecSliceData.{PictureShape}

-- by column and row of places, counted from 0; None outside the picture, where nothing is derived yet, and where a
-- place is predicted in intra mode
abbrev pub Motions : Type 0
Motions = ℕ → ℕ → Option PlaceMotion

-- nothing is derived
abbrev pub no_motions : Motions
no_motions x y = None

-- without the pictures that the vectors point to
abbrev pub vector_of : Option PlaceVector → Option Vector
vector_of None = None
vector_of (Some v) = Some v.vector

-- the motion of a place as units beside it take it
abbrev pub motion_of : Option PlaceMotion → Option Motion
motion_of None = None
motion_of (Some place) = Some (record { list_0 = vector_of place.list_0; list_1 = vector_of place.list_1 })

-- the motion of a place that is counted from 1 at a unit's first place, if it is available
unfoldable pub motion_beside : PictureShape → ℕ → ℕ → Motions → ℕ → ℕ → Option Motion
motion_beside picture slice address motions column row =
    let x = first_column picture address + column - 1 in
    let y = first_row picture address + row - 1 in
    if (nat_le 1 (first_column picture address + column) && nat_le 1 (first_row picture address + row))
    && is_available picture slice address x y
    then motion_of (motions x y)
    else None

-- whether a place, counted so, stands in the row above a unit, as far as the end of the unit behind it, or in the
-- column on its left: of all others outside the unit none is decoded before it, or asked for
abbrev pub is_border : ℕ → ℕ → ℕ → Bool
is_border n column row = (row == 0 && nat_le column (2 * n)) || (column == 0 && nat_le row n)

-- what is known beside the unit at an address
unfoldable pub known_beside : PictureShape → ℕ → ℕ → Motions → Known
known_beside picture slice address motions column row =
    if is_border (unit_places picture) column row then motion_beside picture slice address motions column row else None

-- a vector of a collocated picture
abbrev pub collocated_vector : Option PlaceVector → Option CollocatedVector
collocated_vector None = None
collocated_vector (Some v) =
    Some (record { mv = v.vector.mv; order = v.reference.order; long_term = v.reference.long_term })

-- the motion of a place as later pictures take it
abbrev pub collocated_of : Option PlaceMotion → Option Collocated
collocated_of None = None
collocated_of (Some place) =
    Some (record { list_0 = collocated_vector place.list_0; list_1 = collocated_vector place.list_1 })

-- what a picture has at the blocks of 4x4 places from the first one of the unit at an address on
abbrev pub blocks_from : PictureShape → ℕ → Motions → Beneath
blocks_from picture address motions column row =
    collocated_of (motions (first_column picture address + 4 * column) (first_row picture address + 4 * row))

-- what the collocated picture has at those of them that candidates of the unit stand in: in the rows of the unit, as
-- far as the column behind it, where the bottom right of a block may lie (8.5.3.2.8)
unfoldable pub beneath_unit : PictureShape → ℕ → Motions → Beneath
beneath_unit picture address motions column row =
    if nat_le (4 * column) (unit_places picture) && nat_lt (4 * row) (unit_places picture)
    then blocks_from picture address motions column row
    else None

-- the vectors of a slice with the pictures that they point to
abbrev pub pointing_vector : SliceMotion → ℕ → Option Vector → Option PlaceVector
pointing_vector slice list None = None
pointing_vector slice list (Some v) = Some (record { vector = v; reference = reference_in slice list v.ref_idx })

-- motion with the pictures that it refers to
abbrev pub pointing_motion : SliceMotion → Option Motion → Option PlaceMotion
pointing_motion slice None = None
pointing_motion slice (Some motion) =
    Some (record { list_0 = pointing_vector slice 0 motion.list_0; list_1 = pointing_vector slice 1 motion.list_1 })

-- the motion of the unit at an address, by what is known of it, over that of the picture
unfoldable pub unit_laid : PictureShape → ℕ → SliceMotion → Known → Motions → Motions
unit_laid picture address slice known motions x y =
    if is_of_unit picture address x y
    then pointing_motion slice (known (x - first_column picture address + 1) (y - first_row picture address + 1))
    else motions x y
