-- The coding tree units of a picture by place (6.3.1), and which places are available beside a unit (6.4.1). A place is
-- a block of 4x4 luma samples.
use Rattle.std.specs.Prelude.{ℕ, ◌+◌, ◌-◌, ◌*◌, ◌/◌, ◌^◌, ◌&&◌, nat_le, nat_lt, Bool}
use Rattle.spec_slice_headers.specs.BlockGeometry.{is_decoded_before, is_from}
use Rattle.spec_slice_data.specs.Segment.{PictureShape, column_of, row_of}

-- a unit's side in places, and the column and the row of the first place of the unit at an address
abbrev pub unit_places : PictureShape → ℕ
unit_places picture = 2 ^ picture.size

-- the column of a unit's first place
abbrev pub first_column : PictureShape → ℕ → ℕ
first_column picture address = unit_places picture * column_of picture address

-- the row of its first place
abbrev pub first_row : PictureShape → ℕ → ℕ
first_row picture address = unit_places picture * row_of picture address

-- the address of the unit that has a place or a sample, where units have so many of them on a side
unfoldable pub unit_at : PictureShape → ℕ → ℕ → ℕ → ℕ
unit_at picture side x y = picture.width * (y / side) + x / side

-- whether the picture has a place
abbrev pub has_place : PictureShape → ℕ → ℕ → Bool
has_place picture x y = nat_lt x picture.across && nat_lt y picture.down

-- whether it has a place that is counted from 1 at the first place of the unit at an address
abbrev pub is_there : PictureShape → ℕ → ℕ → ℕ → Bool
is_there picture address column row =
    (nat_le 1 (first_column picture address + column) && nat_le 1 (first_row picture address + row))
    && has_place picture (first_column picture address + column - 1) (first_row picture address + row - 1)

-- whether a place of the picture is one of the unit at an address
abbrev pub is_of_unit : PictureShape → ℕ → ℕ → ℕ → Bool
is_of_unit picture address x y =
    has_place picture x y
    && ((nat_le (first_column picture address) x && nat_lt x (first_column picture address + unit_places picture))
    && (nat_le (first_row picture address) y && nat_lt y (first_row picture address + unit_places picture)))

-- whether a place or a sample that the picture has beside the unit at an address, whose slice begins at another, may be
-- read for it: its unit is of the slice and was decoded before (6.4.1)
abbrev pub may_be_read : PictureShape → ℕ → ℕ → ℕ → ℕ → ℕ → Bool
may_be_read picture side slice address x y =
    is_from slice (unit_at picture side x y) && is_decoded_before (unit_at picture side x y) address

-- whether a place beside a unit is available for it: the picture has it, and it may be read
unfoldable pub is_available : PictureShape → ℕ → ℕ → ℕ → ℕ → Bool
is_available picture slice address x y =
    has_place picture x y && may_be_read picture (unit_places picture) slice address x y
