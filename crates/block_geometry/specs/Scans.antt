-- Scan orders (6.5.3 to 6.5.5).
use Rattle.std.specs.Prelude.{ℕ, ◌+◌, ◌-◌, ◌*◌, ◌/◌, ◌%◌, ◌^◌, ◌==◌, Bool, ◌&&◌, nat_lt, List, [], ◌∷◌, ◌++◌, map}
use Rattle.std.specs.Prelude.{slice_index_or}
use Rattle.std.specs.List.{filter, range_with_len, position_or_len}
use Rattle.block_geometry.specs.declared.kind.Scan.{Scan}
use Rattle.block_geometry.specs.declared.kind.Scan.TheVariants.{Diagonal, Horizontal, Vertical}

abbrev pub Place : Type 0
Place = ℕ × ℕ

abbrev pub is_inside : ℕ → Place → Bool
is_inside size place = nat_lt place.0 size && nat_lt place.1 size

-- the places of a block on one diagonal, from the left end up to the right
abbrev pub diagonal : ℕ → ℕ → List Place
diagonal size d = filter (is_inside size) (map (λ x. (x, d - x)) (range_with_len 0 (d + 1)))

abbrev pub diagonals : ℕ → List ℕ → List Place
diagonals size [] = []
diagonals size (d ∷ ds) = diagonal size d ++ diagonals size ds

-- the places of a block of this side in the order of a scan: up-right diagonals from the first place on, rows, or
-- columns
unfoldable pub scan_order : Scan → ℕ → List Place
scan_order Diagonal size = diagonals size (range_with_len 0 (2 * size))
scan_order Horizontal size = map (λ i. (i % size, i / size)) (range_with_len 0 (size * size))
scan_order Vertical size = map (λ i. (i / size, i % size)) (range_with_len 0 (size * size))

-- the place at an index: ScanOrder
unfoldable pub scan_place : ℕ → Scan → ℕ → Place
scan_place log2 kind i = slice_index_or (scan_order kind (2 ^ log2)) i (0, 0)

abbrev pub is_at : ℕ → ℕ → Place → Bool
is_at x y place = place.0 == x && place.1 == y

-- the index of a place
unfoldable pub scan_index : ℕ → Scan → ℕ → ℕ → ℕ
scan_index log2 kind x y = position_or_len (is_at x y) (scan_order kind (2 ^ log2))

-- how many places smaller blocks have: those of 1x1, 2x2 and 4x4 before those of 8x8
unfoldable pub first_of : ℕ → ℕ
first_of log2 = (2 ^ log2 * 2 ^ log2 - 1) / 3
