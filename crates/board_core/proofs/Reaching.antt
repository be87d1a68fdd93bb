-- The rows that the taps of the filters read lie in the ranges of their blocks.
use Rattle.std.proofs.Common.{ℕ, zero, suc, ◌≡◌, ◌+◌, ◌*◌, ◌/◌, ◌^◌, ◌<◌, ◌≤◌, ℤ, pos, negsuc, ◌+ℤ◌, ◌-ℤ◌, ◌*ℤ◌}
use Rattle.std.proofs.Common.{◌≤ℤ◌, List, map, arith, rules, ap, subst, ◌∙◌}
use Rattle.std.proofs.Math.Nat.{div-mul-le_self, div-lt_iff_lt-mul}
use Rattle.std.proofs.lemmas.Nat.{le-div}
use Rattle.std.proofs.lemmas.Int.{ints, clamps}
use Rattle.std.proofs.lemmas.List.{get_or-map, length-map}
use Rattle.std.specs.Int.{int_shr}
use Rattle.std.specs.List.{Contains}
use Rattle.spec_inter_prediction.specs.BlockGeometry.{line_in}
use Rattle.spec_inter_prediction.proofs.BlockGeometryLemmas.{taps_between}
use Rattle.board_core.specs.declared.predicted_blocks.LumaLines.{LumaLines}
use Rattle.board_core.specs.declared.predicted_blocks.PredictedBlock.{PredictedBlock}
use Rattle.board_core.specs.Reach.{IsLumaLines, ReadsRow, Luma, Chroma, range_of, row_of_chroma_line}

-- a vector in whole samples of luma is twice that of chroma, or one more
twice_low : (v : ℤ) → (pos 2 *ℤ int_shr v 3) ≤ℤ int_shr v 2
twice_low (pos n) = omega (arith, ints)
twice_low (negsuc n) = omega (arith, ints)

twice_high : (v : ℤ) → int_shr v 2 ≤ℤ (pos 2 *ℤ int_shr v 3 +ℤ pos 1)
twice_high (pos n) = omega (arith, ints)
twice_high (negsuc n) = omega (arith, ints)

-- a chroma line that a tap meets lies below the first line of the range, in luma lines
chroma_low : (first y tap : ℕ) (s t : ℤ) → first ≤ 2 * y → s ≤ℤ (pos 2 *ℤ t +ℤ pos 1)
    → (pos first +ℤ s -ℤ pos 3) ≤ℤ (pos 2 *ℤ (pos y +ℤ t -ℤ pos 1 +ℤ pos tap) +ℤ pos 1)
chroma_low first y tap s t low h = omega (arith, ints, low, h)

-- and above its last one
chroma_high : (end y tap : ℕ) (s t : ℤ) → 2 * y + 2 ≤ end → tap < 4 → (pos 2 *ℤ t) ≤ℤ s
    → (pos 2 *ℤ (pos y +ℤ t -ℤ pos 1 +ℤ pos tap)) ≤ℤ (pos end +ℤ s +ℤ pos 3)
chroma_high end y tap s t high few h = omega (arith, ints, high, few, h)

-- so do the lines clamped into a picture of so many chroma lines
clamped_low : (half : ℕ) (a c : ℤ) → 1 ≤ half → a ≤ℤ (pos 2 *ℤ c +ℤ pos 1)
    → line_in (2 * half) a ≤ 2 * line_in half c + 1
clamped_low half a c some h = omega (arith, ints, clamps, some, h)

clamped_high : (half : ℕ) (b c : ℤ) → 1 ≤ half → (pos 2 *ℤ c) ≤ℤ b → 2 * line_in half c ≤ line_in (2 * half) b
clamped_high half b c some h = omega (arith, ints, clamps, some, h)

div_le : (k m n : ℕ) → 0 < k → m ≤ n → m / k ≤ n / k
div_le k m n some h = let low : m / k * k ≤ m = div-mul-le_self m k in le-div (m / k) n k some (omega (arith, low, h))

doubled : (n q : ℕ) → q * 2 ^ suc n ≡ 2 * (q * 2 ^ n)
doubled n q = grind arith

-- two luma lines of one chroma line lie in one row
half_row : (log2 k : ℕ) → 1 ≤ log2 → (2 * k + 1) / 2 ^ log2 ≤ 2 * k / 2 ^ log2
half_row zero k some = absurd (omega (arith, some))
half_row (suc n) k some =
    let positive : 0 < 2 ^ suc n = search rules in
    let q : ℕ = (2 * k + 1) / 2 ^ suc n in
    let low : q * 2 ^ suc n ≤ 2 * k + 1 = div-mul-le_self (2 * k + 1) (2 ^ suc n) in
    let twice : q * 2 ^ suc n ≡ 2 * (q * 2 ^ n) = doubled n q in
    le-div q (2 * k) (2 ^ suc n) positive (omega (arith, low, twice))

-- the row of a chroma line isn't above that of a luma line which its second luma line isn't above
chroma_row_low : (half log2 : ℕ) (a c : ℤ) → 1 ≤ half → 1 ≤ log2 → a ≤ℤ (pos 2 *ℤ c +ℤ pos 1)
    → line_in (2 * half) a / 2 ^ log2 ≤ 2 * line_in half c / 2 ^ log2
chroma_row_low half log2 a c some_half some h =
    let positive : 0 < 2 ^ log2 = search rules in
    let more =
    div_le (2 ^ log2) (line_in (2 * half) a) (2 * line_in half c + 1) positive (clamped_low half a c some_half h) in
    omega (arith, more, half_row log2 (line_in half c) some)

chroma_row_high : (half log2 : ℕ) (b c : ℤ) → 1 ≤ half → (pos 2 *ℤ c) ≤ℤ b
    → 2 * line_in half c / 2 ^ log2 ≤ line_in (2 * half) b / 2 ^ log2
chroma_row_high half log2 b c some_half h =
    let positive : 0 < 2 ^ log2 = search rules in
    div_le (2 ^ log2) (2 * line_in half c) (line_in (2 * half) b) positive (clamped_high half b c some_half h)

some_half : (height : ℕ) → 1 ≤ height → 2 * (height / 2) ≡ height → 1 ≤ height / 2
some_half height some even = omega (arith, some, even)

-- the rows that a block is predicted from lie in its range
pub read_inside : (lines : LumaLines) (block : PredictedBlock) (row : ℕ) → IsLumaLines lines → ReadsRow lines block row
    → ((range_of lines block).first ≤ row) × (row ≤ (range_of lines block).last)
read_inside lines block row is (Luma y tap low high few e) =
    let between = taps_between lines.height lines.ctb_log2 block.first block.lines y tap block.down low high few in
    (omega (arith, e, between.0), omega (arith, e, between.1))
read_inside lines block row is (Chroma y tap low high few e) =
    let s : ℤ = int_shr block.down 2 in
    let t : ℤ = int_shr block.down 3 in
    let c : ℤ = pos y +ℤ t -ℤ pos 1 +ℤ pos tap in
    let a : ℤ = pos block.first +ℤ s -ℤ pos 3 in
    let b : ℤ = pos (block.first + block.lines) +ℤ s +ℤ pos 3 in
    let some = some_half lines.height is.some is.even in
    let above =
    chroma_row_low (lines.height / 2) lines.ctb_log2 a c some is.some_log2
    (chroma_low block.first y tap s t low (twice_high block.down)) in
    let below =
    chroma_row_high (lines.height / 2) lines.ctb_log2 b c some
    (chroma_high (block.first + block.lines) y tap s t high few (twice_low block.down)) in
    let P : ℕ → Type 0 = λ h. line_in h a / 2 ^ lines.ctb_log2 ≤ row_of_chroma_line lines c in
    let Q : ℕ → Type 0 = λ h. row_of_chroma_line lines c ≤ line_in h b / 2 ^ lines.ctb_log2 in
    let first = subst P is.even above in
    let last = subst Q is.even below in
    (omega (arith, e, first), omega (arith, e, last))

-- and are rows of a picture that has all of its lines
pub row_of_picture : (lines : LumaLines) (block : PredictedBlock) (row rows : ℕ) → IsLumaLines lines
    → lines.height ≤ rows * 2 ^ lines.ctb_log2 → ReadsRow lines block row → row < rows
row_of_picture lines block row rows is all reads =
    let positive : 0 < 2 ^ lines.ctb_log2 = search rules in
    let b : ℤ = pos (block.first + block.lines) +ℤ int_shr block.down 2 +ℤ pos 3 in
    let inside : line_in lines.height b < lines.height = omega (arith, ints, clamps, is.some) in
    let lt : line_in lines.height b < rows * 2 ^ lines.ctb_log2 = omega (arith, inside, all) in
    let last : line_in lines.height b / 2 ^ lines.ctb_log2 < rows = (div-lt_iff_lt-mul positive).1 lt in
    omega (arith, (read_inside lines block row is reads).1, last)

-- what stands in a list stands, mapped, in the mapped list
pub map_contains : {X Y : Type 0} (f : X → Y) (xs : List X) (x : X) → Contains xs x → Contains (map f xs) (f x)
map_contains f xs x (k, inside, is) =
    (k, omega (arith, inside, length-map xs f), get_or-map f xs k x (f x) inside ∙ ap f is)
