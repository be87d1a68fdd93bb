-- The filters: mirrored, of equal samples, and what they depend on.
use Rattle.std.proofs.Common.{◌≡◌, ap, ℕ, zero, suc, ◌+◌, ◌-◌, ◌<◌, ◌≤◌, ℤ, pos, ◌+ℤ◌, ◌-ℤ◌, ◌*ℤ◌, ◌≤ℤ◌, arith}
use Rattle.std.proofs.lemmas.Int.{ints}
use Rattle.std.specs.Int.{int_shr}
use Rattle.block_geometry.specs.Rows.{tap_line}
use Rattle.spec_inter_prediction.specs.Taps.{luma_taps, luma_filter, chroma_taps}
use Rattle.spec_inter_prediction.specs.Luma.{quarter, luma_first, luma_sample}

pub luma_mirrored : (q : ℕ) (a b c d e f g h : ℤ) → 0 < q → q < 4
    → luma_taps (4 - q) a b c d e f g h ≡ luma_taps q h g f e d c b a
unfolding luma_taps
luma_mirrored zero a b c d e f g h some few = absurd (omega (arith, some))
luma_mirrored (suc zero) a b c d e f g h some few = omega (arith, ints)
luma_mirrored (suc (suc zero)) a b c d e f g h some few = omega (arith, ints)
luma_mirrored (suc (suc (suc zero))) a b c d e f g h some few = omega (arith, ints)
luma_mirrored (suc (suc (suc (suc n)))) a b c d e f g h some few = absurd (omega (arith, few))

pub chroma_mirrored : (q : ℕ) (a b c d : ℤ) → 0 < q → q < 8 → chroma_taps (8 - q) a b c d ≡ chroma_taps q d c b a
unfolding chroma_taps
chroma_mirrored zero a b c d some few = absurd (omega (arith, some))
chroma_mirrored (suc zero) a b c d some few = omega (arith, ints)
chroma_mirrored (suc (suc zero)) a b c d some few = omega (arith, ints)
chroma_mirrored (suc (suc (suc zero))) a b c d some few = omega (arith, ints)
chroma_mirrored (suc (suc (suc (suc zero)))) a b c d some few = omega (arith, ints)
chroma_mirrored (suc (suc (suc (suc (suc zero))))) a b c d some few = omega (arith, ints)
chroma_mirrored (suc (suc (suc (suc (suc (suc zero)))))) a b c d some few = omega (arith, ints)
chroma_mirrored (suc (suc (suc (suc (suc (suc (suc zero))))))) a b c d some few = omega (arith, ints)
chroma_mirrored (suc (suc (suc (suc (suc (suc (suc (suc n)))))))) a b c d some few = absurd (omega (arith, few))

pub luma_equal : (q : ℕ) (a : ℤ) → q < 4 → luma_taps q a a a a a a a a ≡ pos 64 *ℤ a
unfolding luma_taps
luma_equal zero a few = omega (arith, ints)
luma_equal (suc zero) a few = omega (arith, ints)
luma_equal (suc (suc zero)) a few = omega (arith, ints)
luma_equal (suc (suc (suc zero))) a few = omega (arith, ints)
luma_equal (suc (suc (suc (suc n)))) a few = absurd (omega (arith, few))

pub chroma_equal : (q : ℕ) (a : ℤ) → q < 8 → chroma_taps q a a a a ≡ pos 64 *ℤ a
unfolding chroma_taps
chroma_equal zero a few = omega (arith, ints)
chroma_equal (suc zero) a few = omega (arith, ints)
chroma_equal (suc (suc zero)) a few = omega (arith, ints)
chroma_equal (suc (suc (suc zero))) a few = omega (arith, ints)
chroma_equal (suc (suc (suc (suc zero)))) a few = omega (arith, ints)
chroma_equal (suc (suc (suc (suc (suc zero))))) a few = omega (arith, ints)
chroma_equal (suc (suc (suc (suc (suc (suc zero)))))) a few = omega (arith, ints)
chroma_equal (suc (suc (suc (suc (suc (suc (suc zero))))))) a few = omega (arith, ints)
chroma_equal (suc (suc (suc (suc (suc (suc (suc (suc n)))))))) a few = absurd (omega (arith, few))

-- a luma filter depends on eight values
pub luma_same : (q : ℕ) (s t : ℕ → ℤ) → ((k : ℕ) → k < 8 → s k ≡ t k) → luma_filter q s ≡ luma_filter q t
luma_same q s t h =
    let a : s 0 ≡ t 0 = h 0 (omega arith) in
    let b : s 1 ≡ t 1 = h 1 (omega arith) in
    let c : s 2 ≡ t 2 = h 2 (omega arith) in
    let d : s 3 ≡ t 3 = h 3 (omega arith) in
    let e : s 4 ≡ t 4 = h 4 (omega arith) in
    let f : s 5 ≡ t 5 = h 5 (omega arith) in
    let g : s 6 ≡ t 6 = h 6 (omega arith) in
    let i : s 7 ≡ t 7 = h 7 (omega arith) in
    cc

line_is : (y tap : ℕ) (down : ℤ) → luma_first y down +ℤ pos tap ≡ tap_line y down tap
line_is y tap down = omega (arith, ints)

pub sample_same : (depth : ℕ) (reference other : ℤ → ℤ → ℕ) (across down : ℤ) (x y : ℕ)
    → ((column : ℤ) (tap : ℕ) → tap < 8 → reference column (tap_line y down tap) ≡ other column (tap_line y down tap))
    → luma_sample depth reference across down x y ≡ luma_sample depth other across down x y
unfolding luma_sample
sample_same depth reference other across down x y same =
    ap (λ (z : ℤ). int_shr z 6) (luma_same (quarter down)
    (λ j. int_shr
    (luma_filter (quarter across) (λ i. pos (reference (luma_first x across +ℤ pos i) (luma_first y down +ℤ pos j))))
    (depth - 8))
    (λ j. int_shr
    (luma_filter (quarter across) (λ i. pos (other (luma_first x across +ℤ pos i) (luma_first y down +ℤ pos j))))
    (depth - 8))
    (λ j few. ap (λ (z : ℤ). int_shr z (depth - 8)) (luma_same (quarter across)
    (λ i. pos (reference (luma_first x across +ℤ pos i) (luma_first y down +ℤ pos j)))
    (λ i. pos (other (luma_first x across +ℤ pos i) (luma_first y down +ℤ pos j)))
    (λ i less. rw (line_is y j down) (ap (λ (v : ℕ). pos v) (same (luma_first x across +ℤ pos i) j few))))))

pub block_same : (depth : ℕ) (reference other : ℤ → ℤ → ℕ) (across down : ℤ) (y0 h x y : ℕ)
    → ((column line : ℤ) → (pos y0 +ℤ int_shr down 2 -ℤ pos 3) ≤ℤ line
    → line ≤ℤ (pos (y0 + h) +ℤ int_shr down 2 +ℤ pos 3) → reference column line ≡ other column line)
    → y0 ≤ y → y < y0 + h → luma_sample depth reference across down x y ≡ luma_sample depth other across down x y
block_same depth reference other across down y0 h x y same low high =
    sample_same depth reference other across down x y (λ column tap few.
    same column (tap_line y down tap) (omega (arith, ints, low)) (omega (arith, ints, high, few)))
