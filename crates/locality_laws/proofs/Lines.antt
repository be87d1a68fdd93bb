-- The lines that a chroma sample depends on, and the rows that have them.
use Rattle.std.proofs.Common.{◌≡◌, ℕ, zero, suc, ◌+◌, ◌-◌, ◌*◌, ◌/◌, ◌%◌, ◌^◌, ◌<◌, ◌≤◌, ap, ◌∙◌, sym, arith}
use Rattle.std.proofs.Common.{refl, ℤ, pos, negsuc, ◌+ℤ◌, ◌-ℤ◌, ◌*ℤ◌, ◌≤ℤ◌}
use Rattle.std.proofs.lemmas.Int.{ints, clamps}
use Rattle.std.proofs.lemmas.Nat.{le-div, pow_pos}
use Rattle.std.proofs.Math.Nat.{div-mul-le_self}
use Rattle.std.specs.Int.{int_shr}
use Rattle.block_geometry.specs.Rows.{line_in, row_of_line}
use Rattle.spec_inter_prediction.specs.Chroma.{chroma_first, chroma_sample, eighth}
use Rattle.spec_inter_prediction.specs.Taps.{chroma_filter, clamped}

-- a chroma filter depends on four values
four_same : (q : ℕ) (s t : ℕ → ℤ) → ((k : ℕ) → k < 4 → s k ≡ t k) → chroma_filter q s ≡ chroma_filter q t
four_same q s t h =
    let a : s 0 ≡ t 0 = h 0 (omega arith) in
    let b : s 1 ≡ t 1 = h 1 (omega arith) in
    let c : s 2 ≡ t 2 = h 2 (omega arith) in
    let d : s 3 ≡ t 3 = h 3 (omega arith) in
    cc

chroma_same : (depth : ℕ) (reference other : ℤ → ℤ → ℕ) (across down : ℤ) (x y : ℕ)
    → ((column : ℤ) (tap : ℕ) → tap < 4
    → reference column (chroma_first y down +ℤ pos tap) ≡ other column (chroma_first y down +ℤ pos tap))
    → chroma_sample depth reference across down x y ≡ chroma_sample depth other across down x y
unfolding chroma_sample
chroma_same depth reference other across down x y same =
    ap (λ (z : ℤ). int_shr z 6) (four_same (eighth down)
    (λ j. int_shr
    (chroma_filter (eighth across)
    (λ i. pos (reference (chroma_first x across +ℤ pos i) (chroma_first y down +ℤ pos j))))
    (depth - 8))
    (λ j. int_shr
    (chroma_filter (eighth across) (λ i. pos (other (chroma_first x across +ℤ pos i) (chroma_first y down +ℤ pos j))))
    (depth - 8))
    (λ j few. ap (λ (z : ℤ). int_shr z (depth - 8)) (four_same (eighth across)
    (λ i. pos (reference (chroma_first x across +ℤ pos i) (chroma_first y down +ℤ pos j)))
    (λ i. pos (other (chroma_first x across +ℤ pos i) (chroma_first y down +ℤ pos j)))
    (λ i less. ap (λ (v : ℕ). pos v) (same (chroma_first x across +ℤ pos i) j few)))))

-- a block of chroma samples depends on the line before it to the second one behind it, moved by the vector
pub chroma_block_same : (depth : ℕ) (reference other : ℤ → ℤ → ℕ) (across down : ℤ) (y0 h x y : ℕ)
    → ((column line : ℤ) → (pos y0 +ℤ int_shr down 3 -ℤ pos 1) ≤ℤ line
    → line ≤ℤ (pos (y0 + h) +ℤ int_shr down 3 +ℤ pos 1) → reference column line ≡ other column line)
    → y0 ≤ y → y < y0 + h → chroma_sample depth reference across down x y ≡ chroma_sample depth other across down x y
chroma_block_same depth reference other across down y0 h x y same low high =
    chroma_same depth reference other across down x y (λ column tap few.
    same column (chroma_first y down +ℤ pos tap) (omega (arith, ints, low)) (omega (arith, ints, high, few)))

-- a vector in whole luma samples and one in whole chroma samples
eighths : (v : ℤ) → ((pos 2 *ℤ int_shr v 3) ≤ℤ int_shr v 2) × (int_shr v 2 ≤ℤ (pos 2 *ℤ int_shr v 3 +ℤ pos 1))
eighths (pos n) =
    let a : int_shr (pos n) 3 ≡ pos (n / 8) = refl in
    let b : int_shr (pos n) 2 ≡ pos (n / 4) = refl in
    (omega (arith, ints), omega (arith, ints))
eighths (negsuc n) =
    let a : int_shr (negsuc n) 3 ≡ negsuc (n / 8) = refl in
    let b : int_shr (negsuc n) 2 ≡ negsuc (n / 4) = refl in
    (omega (arith, ints), omega (arith, ints))

-- lines that are clamped into a picture of an even height, and into its chroma of half of it
clamped_below : (height : ℕ) (a line : ℤ) → 2 ≤ height → height % 2 ≡ 0 → a ≤ℤ (pos 2 *ℤ line)
    → line_in height a ≤ 2 * clamped line (height / 2) + 1
unfolding clamped
clamped_below height a line high even le = omega (arith, ints, clamps)

clamped_above : (height : ℕ) (b line : ℤ) → 2 ≤ height → height % 2 ≡ 0 → (pos 2 *ℤ line) ≤ℤ b
    → 2 * clamped line (height / 2) ≤ line_in height b
unfolding clamped
clamped_above height b line high even le = omega (arith, ints, clamps)

div-le-div : (k m n : ℕ) → 0 < k → m ≤ n → m / k ≤ n / k
div-le-div k m n some h =
    let low : m / k * k ≤ m = div-mul-le_self m k in
    le-div (m / k) n k some (omega arith)

-- both lines of two that begin at an even one are in a row of an even number of lines
same_block : (k m n : ℕ) → 0 < k → m ≤ 2 * n + 1 → m / (2 * k) ≤ 2 * n / (2 * k)
same_block k m n some h =
    let low : m / (2 * k) * (2 * k) ≤ m = div-mul-le_self m (2 * k) in
    let even : m / (2 * k) * (2 * k) ≡ 2 * (m / (2 * k) * k) = grind arith in
    le-div (m / (2 * k)) (2 * n) (2 * k) (omega (arith, some)) (omega (arith, low, even))

twice : (k : ℕ) → 1 ≤ k → 2 ^ k ≡ 2 * 2 ^ (k - 1)
twice k some =
    let e : k ≡ suc (k - 1) = omega arith in
    let f : 2 ^ suc (k - 1) ≡ 2 * 2 ^ (k - 1) = grind arith in
    ap (λ n. 2 ^ n) e ∙ f

-- the row of a chroma line is among those of luma lines on both sides of it
pub chroma_row_is : (height ctb_log2 : ℕ) (a b line : ℤ) → 2 ≤ height → height % 2 ≡ 0 → 1 ≤ ctb_log2
    → a ≤ℤ (pos 2 *ℤ line) → (pos 2 *ℤ line) ≤ℤ b
    → (row_of_line height ctb_log2 a ≤ 2 * clamped line (height / 2) / 2 ^ ctb_log2)
    × (2 * clamped line (height / 2) / 2 ^ ctb_log2 ≤ row_of_line height ctb_log2 b)
chroma_row_is height ctb_log2 a b line high even some low most =
    let half : ℕ = 2 ^ (ctb_log2 - 1) in
    let e = twice ctb_log2 some in
    let first : line_in height a / (2 * 2 ^ (ctb_log2 - 1)) ≤ 2 * clamped line (height / 2) / (2 * 2 ^ (ctb_log2 - 1)) =
    same_block (2 ^ (ctb_log2 - 1)) (line_in height a) (clamped line (height / 2)) (pow_pos (ctb_log2 - 1))
    (clamped_below height a line high even low) in (
      rw e first,
      div-le-div (2 ^ ctb_log2) _ _ (pow_pos ctb_log2) (clamped_above height b line high even most),
    )

-- the lines of a block of chroma, in lines of luma
pub chroma_lines_between : (y0 h c d : ℕ) (my line : ℤ) → y0 ≡ 2 * c → h ≡ 2 * d
    → (pos c +ℤ int_shr my 3 -ℤ pos 1) ≤ℤ line → line ≤ℤ (pos (c + d) +ℤ int_shr my 3 +ℤ pos 1)
    → ((pos y0 +ℤ int_shr my 2 -ℤ pos 3) ≤ℤ (pos 2 *ℤ line))
    × ((pos 2 *ℤ line) ≤ℤ (pos (y0 + h) +ℤ int_shr my 2 +ℤ pos 3))
chroma_lines_between y0 h c d my line e f low high =
    let g = eighths my in (omega (arith, ints, g.1, e, low), omega (arith, ints, g.0, e, f, high))
