-- Which places may be used by another (6.4.1), by the order in which they are decoded (6.5.2).
use Rattle.std.specs.Prelude.{ℕ, ◌+◌, ◌-◌, ◌*◌, ◌/◌, ◌%◌, ◌^◌, ℤ, pos, negsuc, Bool, false, ◌&&◌, nat_le, nat_lt}
use Rattle.block_geometry.specs.declared.availability.SliceArea.{SliceArea}
use Rattle.block_geometry.specs.CodingTreeBlocks.{ctb_place, is_from}

-- the bits of a number below 16, each at the place of its square
unfoldable pub spread : ℕ → ℕ
spread k = k % 2 + 4 * (k / 2 % 2) + 16 * (k / 4 % 2) + 64 * (k / 8 % 2)

-- how many coding tree units a row has
abbrev pub width_in_units : SliceArea → ℕ
width_in_units area = (area.across + (2 ^ area.size - 1)) / 2 ^ area.size

-- the address of the coding tree unit that has a place
unfoldable pub unit_of_place : SliceArea → ℕ → ℕ → ℕ
unit_of_place area x y = width_in_units area * (y / 2 ^ area.size) + x / 2 ^ area.size

-- the place of a place in the z-scan order of a picture: units as they are decoded, and inside each the bits of column
-- and row in turn
unfoldable pub z_scan_order : SliceArea → ℕ → ℕ → ℕ
z_scan_order area x y =
    256 * ctb_place (unit_of_place area x y) + (spread (x % 2 ^ area.size) + 2 * spread (y % 2 ^ area.size))

-- the first column, or row, of the block of so many places on a side that has a place
abbrev pub block_start : ℕ → ℕ → ℕ
block_start log2 x = x - x % 2 ^ log2

-- where the minimum transform block of a place stands in that order, told by the block's first place (MinTbAddrZs)
abbrev pub min_transform_order : SliceArea → ℕ → ℕ → ℕ
min_transform_order area x y = z_scan_order area (block_start area.min_transform x) (block_start area.min_transform y)

-- a place that the picture has, in the same slice, and in a minimum transform block that isn't decoded after that of
-- another place
abbrev pub is_usable : SliceArea → ℕ → ℕ → ℕ → ℕ → Bool
is_usable area x y neighbour_x neighbour_y =
    (nat_lt neighbour_x area.across && nat_lt neighbour_y area.down)
    && (is_from area.first_unit (unit_of_place area neighbour_x neighbour_y)
    && nat_le (min_transform_order area neighbour_x neighbour_y) (min_transform_order area x y))

-- availableN: places left of the picture and above it have a coordinate below 0
unfoldable pub available : SliceArea → ℕ → ℕ → ℤ → ℤ → Bool
available area x y (pos neighbour_x) (pos neighbour_y) = is_usable area x y neighbour_x neighbour_y
available area x y (pos neighbour_x) (negsuc above) = false
available area x y (negsuc left) neighbour_y = false
