-- The order in which the coding units of a coding tree unit are read, and which places they have (6.4.1, 6.5.2).
use Rattle.std.specs.Prelude.{◌≡◌, ℕ, ◌+◌, ◌*◌, ◌%◌, ◌^◌, ◌<◌, ◌≤◌, pos, Bool, false, ◌||◌, nat_lt, List, [], ◌∷◌}
use Rattle.std.specs.Prelude.{All}
use Rattle.std.specs.Prelude.{length, slice_index_or, take}
use Rattle.block_geometry.specs.declared.availability.SliceArea.{SliceArea}
use Rattle.block_geometry.specs.Availability.{available, spread}
use Rattle.ctu_records.specs.declared.item.Item.{Item}
use Rattle.ctu_records.specs.declared.item.Item.TheVariants.{Unit}
use Rattle.ctu_records.specs.declared.item.Square.{Square}
use Rattle.ctu_records.specs.Places.{inside}
use Rattle.spec_picture_build.specs.SpecPictureTrees.{first_column, first_row, unit_places}
use Rattle.spec_slice_data.specs.Segment.{PictureShape}

-- the square of a coding unit, in front of others
abbrev pub with_square : Item → List Square → List Square
with_square (Unit unit) squares = unit.square ∷ squares
with_square other squares = squares

-- the squares of the coding units among items, in reading order
abbrev pub coding_squares : List Item → List Square
coding_squares [] = []
coding_squares (item ∷ items) = with_square item (coding_squares items)

-- whether a place is in a square, and whether it is in one of these
abbrev pub is_in : Square → ℕ → ℕ → Bool
is_in square i j = inside square.x square.y (2 ^ square.log2_size) i j

abbrev pub is_in_any : List Square → ℕ → ℕ → Bool
is_in_any [] i j = false
is_in_any (square ∷ squares) i j = is_in square i j || is_in_any squares i j

-- where a place of a coding tree unit stands in its z-scan order: the bits of column and row in turn
abbrev pub unit_order : ℕ → ℕ → ℕ
unit_order i j = spread i + 2 * spread j

-- of the places that the picture has in a unit (`right` columns and `lower` rows of it), these squares have those that
-- come before a place of the z-scan, and no others
abbrev pub HaveThoseBefore : ℕ → ℕ → List Square → ℕ → Type 0
HaveThoseBefore right lower squares place =
    (i j : ℕ) → i < 16 → j < 16 → i < right → j < lower → is_in_any squares i j ≡ nat_lt (unit_order i j) place

abbrev pub no_square : Square
no_square = record { x = 0; y = 0; log2_size = 0 }

-- the coding units of a unit are read in z-scan order: of the places that the picture has there, those before a coding
-- unit's first one are those of the coding units that are read before it
abbrev pub AreInScanOrder : ℕ → ℕ → List Square → Type 0
AreInScanOrder right lower squares =
    (k : ℕ) → k < length squares
    → HaveThoseBefore right lower (take k squares)
    (unit_order (slice_index_or squares k no_square).x (slice_index_or squares k no_square).y)

-- a square that isn't smaller than a least coding unit, in a unit of this size, at whole multiples of its side
pub record IsWhole (log2_min_coding size : ℕ) (square : Square) : Type 0 where
  pub least : log2_min_coding ≤ square.log2_size
  pub across : square.x + 2 ^ square.log2_size ≤ 2 ^ size
  pub down : square.y + 2 ^ square.log2_size ≤ 2 ^ size
  pub column : square.x % 2 ^ square.log2_size ≡ 0
  pub row : square.y % 2 ^ square.log2_size ≡ 0

-- and once all are read they have all the places of a unit of this size
pub record AreScanned (log2_min_coding size right lower : ℕ) (squares : List Square) : Type 0 where
  pub each : All (IsWhole log2_min_coding size) squares
  pub order : AreInScanOrder right lower squares
  pub all : HaveThoseBefore right lower squares (4 ^ size)

-- a slice of a picture by where its first unit stands, for the z-scan order of the picture's minimum transform blocks,
-- whose sides have this binary logarithm in places
abbrev pub slice_area : PictureShape → ℕ → ℕ → SliceArea
slice_area picture min_transform slice = record {
  across = picture.across;
  down = picture.down;
  size = picture.size;
  min_transform = min_transform;
  first_unit = slice;
}

-- for each coding unit of the unit at an address, a place of that unit is one of the coding units that are read before
-- it exactly where it is available for the coding unit's first place by 6.4.1. Places of the coding unit itself aside
abbrev pub AreAvailable : PictureShape → ℕ → ℕ → ℕ → List Square → Type 0
AreAvailable picture min_transform slice address squares =
    (k i j : ℕ) → k < length squares → i < unit_places picture → j < unit_places picture
    → first_column picture address + i < picture.across → first_row picture address + j < picture.down
    → is_in (slice_index_or squares k no_square) i j ≡ false
    → is_in_any (take k squares) i j
    ≡ available (slice_area picture min_transform slice)
    (first_column picture address + (slice_index_or squares k no_square).x)
    (first_row picture address + (slice_index_or squares k no_square).y)
    (pos (first_column picture address + i)) (pos (first_row picture address + j))
