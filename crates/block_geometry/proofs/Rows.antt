-- Rows of coding tree blocks in order.
use Rattle.std.proofs.Common.{ℕ, ◌+◌, ◌*◌, ◌<◌, ◌≤◌, ◌/◌, ◌^◌, ℤ, pos, ◌+ℤ◌, ◌-ℤ◌, ◌≤ℤ◌, arith, rules}
use Rattle.std.proofs.Math.Nat.{div-mul-le_self}
use Rattle.std.proofs.lemmas.Nat.{le-div}
use Rattle.std.specs.Int.{int_shr}
use Rattle.std.proofs.lemmas.Int.{ints, clamps}
use Rattle.block_geometry.specs.Rows.{line_in, row_of_line, tap_line}

line_in-le : (height : ℕ) (a b : ℤ) → a ≤ℤ b → line_in height a ≤ line_in height b
line_in-le height a b h = omega (arith, ints, clamps)

div-le-div : (k m n : ℕ) → 0 < k → m ≤ n → m / k ≤ n / k
div-le-div k m n some h =
    let low : m / k * k ≤ m = div-mul-le_self m k in
    le-div (m / k) n k some (omega arith)

-- a line that isn't above another lies in no earlier row
pub row_of_line-le : (height ctb_log2 : ℕ) (a b : ℤ) → a ≤ℤ b
    → row_of_line height ctb_log2 a ≤ row_of_line height ctb_log2 b
row_of_line-le height ctb_log2 a b h =
    let line : line_in height a ≤ line_in height b = line_in-le height a b h in
    let some : 0 < 2 ^ ctb_log2 = search rules in
    div-le-div (2 ^ ctb_log2) _ _ some line

-- each tap of a line of the block reads a line from the first to the last
pub taps_between : (height ctb_log2 y0 h y tap : ℕ) (my : ℤ) → y0 ≤ y → y < y0 + h → tap < 8
    → (row_of_line height ctb_log2 (pos y0 +ℤ int_shr my 2 -ℤ pos 3) ≤ row_of_line height ctb_log2 (tap_line y my tap))
    × (row_of_line height ctb_log2 (tap_line y my tap)
    ≤ row_of_line height ctb_log2 (pos (y0 + h) +ℤ int_shr my 2 +ℤ pos 3))
taps_between height ctb_log2 y0 h y tap my low high few =
    let first : (pos y0 +ℤ int_shr my 2 -ℤ pos 3) ≤ℤ tap_line y my tap = omega (arith, ints) in
    let last : tap_line y my tap ≤ℤ (pos (y0 + h) +ℤ int_shr my 2 +ℤ pos 3) = omega (arith, ints) in
    (row_of_line-le height ctb_log2 _ _ first, row_of_line-le height ctb_log2 _ _ last)
