-- The blocks of the prediction units of a coding unit (7.4.9.5, 8.6.1).
use Rattle.std.specs.Prelude.{ℕ, ◌+◌, ◌-◌, ◌*◌, ◌/◌, ◌^◌, ◌==◌, Bool, nat_le, nat_lt, ◌&&◌, if◌then◌else◌}
use Rattle.ctu_records.specs.declared.item.Square.{Square}
use Rattle.ctu_records.specs.declared.prediction.PartMode.{PartMode}
use Rattle.ctu_records.specs.declared.prediction.PartMode.TheVariants.{Whole, TwoNxN, Nx2N, NxN, TwoNxnU, TwoNxnD}
use Rattle.ctu_records.specs.declared.prediction.PartMode.TheVariants.{NLx2N, NRx2N}
use Rattle.ctu_records.specs.declared.prediction.Rectangle.{Rectangle}

abbrev pub rectangle : ℕ → ℕ → ℕ → ℕ → Rectangle
rectangle x y width height = record { x = x; y = y; width = width; height = height }

-- the first part of two, or the second, of a side that is cut behind so many places
abbrev pub upper_or_lower : ℕ → ℕ → ℕ → ℕ → ℕ → Rectangle
upper_or_lower x y n cut part = if part == 0 then rectangle x y n cut else rectangle x (y + cut) n (n - cut)

abbrev pub left_or_right : ℕ → ℕ → ℕ → ℕ → ℕ → Rectangle
left_or_right x y n cut part = if part == 0 then rectangle x y cut n else rectangle (x + cut) y (n - cut) n

-- the block of a part, by the first place and the side of its coding unit, and its partIdx
unfoldable pub part_of : ℕ → ℕ → ℕ → PartMode → ℕ → Rectangle
part_of x y n Whole part = rectangle x y n n
part_of x y n TwoNxN part = upper_or_lower x y n (n / 2) part
part_of x y n Nx2N part = left_or_right x y n (n / 2) part
part_of x y n NxN part = rectangle (x + n / 2 * (part - part / 2 * 2)) (y + n / 2 * (part / 2)) (n / 2) (n / 2)
part_of x y n TwoNxnU part = upper_or_lower x y n (n / 4) part
part_of x y n TwoNxnD part = upper_or_lower x y n (n - n / 4) part
part_of x y n NLx2N part = left_or_right x y n (n / 4) part
part_of x y n NRx2N part = left_or_right x y n (n - n / 4) part

-- the block of a part of a coding unit
abbrev pub part_block : Square → PartMode → ℕ → Rectangle
part_block unit part_mode part = part_of unit.x unit.y (2 ^ unit.log2_size) part_mode part

-- whether a place is in a block
abbrev pub is_inside : Rectangle → ℕ → ℕ → Bool
is_inside block i j =
    (nat_le block.x i && nat_lt i (block.x + block.width)) && (nat_le block.y j && nat_lt j (block.y + block.height))
