-- Windows of 8-bit samples, filtered in one direction or in both, as the sample that the standard predicts.
use Rattle.std.proofs.Common.{◌≡◌, ◌∙◌, ap, sym, refl, inl, inr, ◌⊎◌, ◌/◌, ℕ, ◌+◌, ◌-◌, ◌*◌, ◌^◌, ◌<◌, ◌≤◌, List, ℤ}
use Rattle.std.proofs.Common.{pos, negsuc, ◌+ℤ◌, ◌-ℤ◌, ◌*ℤ◌, arith}
use Rattle.std.proofs.lemmas.Int.{ints}
use Rattle.std.specs.Int.{int_shr}
use Rattle.spec_inter_prediction.specs.Taps.{luma_taps, chroma_taps, filtered}
use Rattle.inter_pred.specs.Passes.{at, filter, down, tapped}
use Rattle.inter_pred.proofs.Raising.{filter_same, raised_filter}
use Rattle.inter_pred.proofs.Joining.{unscaled, whole_joined}

unshifted : (z : ℤ) → int_shr z 0 ≡ z
unshifted (pos n) = grind (arith, ints)
unshifted (negsuc n) = grind (arith, ints)

at_least : (taps : ℕ) → ((taps ≡ 8) ⊎ (taps ≡ 4)) → 4 ≤ taps
at_least taps (inl eight) = omega (arith, eight)
at_least taps (inr four) = omega (arith, four)

-- the filter of a whole place is 64 times the sample there
zero_luma : (s : ℕ → ℤ) → filter 8 0 s ≡ pos 64 *ℤ s 3
unfolding luma_taps
zero_luma s = refl

zero_chroma : (s : ℕ → ℤ) → filter 4 0 s ≡ pos 64 *ℤ s 1
unfolding chroma_taps
zero_chroma s = refl

zero_filter : (taps : ℕ) (s : ℕ → ℤ) → ((taps ≡ 8) ⊎ (taps ≡ 4)) → filter taps 0 s ≡ pos 64 *ℤ s (taps / 2 - 1)
zero_filter taps s (inl eight) = rw eight (zero_luma s)
zero_filter taps s (inr four) = rw four (zero_chroma s)

-- a filter across at whole lines, and one down at whole columns
across_alone : (taps fraction : ℕ) (s : ℕ → ℕ → ℤ) → ((taps ≡ 8) ⊎ (taps ≡ 4)) →
    filter taps fraction (λ i. s i (taps / 2 - 1)) ≡ filtered (filter taps fraction) (filter taps 0) 8 s
across_alone taps fraction s is =
    sym (ap (λ (z : ℤ). int_shr z 6) (zero_filter taps (λ j. int_shr (filter taps fraction (λ i. s i j)) 0) is)
    ∙ unscaled _ ∙ unshifted _)

column_raised : (taps j : ℕ) (s : ℕ → ℕ → ℕ) → ((taps ≡ 8) ⊎ (taps ≡ 4)) →
    int_shr (filter taps 0 (λ i. pos (s i j))) 0 ≡ pos (2 ^ (14 - 8) * s (taps / 2 - 1) j)
column_raised taps j s is =
    let z = zero_filter taps (λ i. pos (s i j)) is in
    let u = unshifted (filter taps 0 (λ i. pos (s i j))) in
    omega (arith, ints, z, u)

down_alone : (taps fraction : ℕ) (s : ℕ → ℕ → ℕ) → ((taps ≡ 8) ⊎ (taps ≡ 4)) →
    filter taps fraction (λ j. pos (s (taps / 2 - 1) j))
    ≡ filtered (filter taps 0) (filter taps fraction) 8 (λ i j. pos (s i j))
down_alone taps fraction s is =
    sym (ap (λ (z : ℤ). int_shr z 6)
    (filter_same taps fraction _ _ (at_least taps is) (λ j lt. column_raised taps j s is))
    ∙ raised_filter 8 taps fraction (λ j. s (taps / 2 - 1) j) (omega arith, omega arith) (at_least taps is)
    ∙ unshifted _)

tapped_is : (taps fraction step : ℕ) (window : List ℕ) (place : ℕ) (s : ℕ → ℕ) → 4 ≤ taps →
    ((i : ℕ) → i < taps → at window (place + step * i) ≡ s i) →
    tapped taps fraction step window place ≡ filter taps fraction (λ i. pos (s i))
unfolding tapped
tapped_is taps fraction step window place s four same =
    filter_same taps fraction _ _ four (λ i lt. ap (λ (v : ℕ). pos v) (same i lt))

middle_is : (taps : ℕ) (t top : ℤ) (y : ℕ) → ((taps ≡ 8) ⊎ (taps ≡ 4)) → top ≡ t +ℤ (pos (taps / 2) -ℤ pos 1) →
    top +ℤ pos y ≡ t +ℤ pos y +ℤ pos (taps / 2 - 1)
middle_is taps t top y (inl eight) e = omega (arith, ints, eight, e)
middle_is taps t top y (inr four) e = omega (arith, ints, four, e)

pub whole_bytes : (reference : ℤ → ℤ → ℕ) (taps x y sample : ℕ) (l t left top : ℤ) → ((taps ≡ 8) ⊎ (taps ≡ 4)) →
    left ≡ l +ℤ (pos (taps / 2) -ℤ pos 1) → top ≡ t +ℤ (pos (taps / 2) -ℤ pos 1) →
    sample ≡ reference (left +ℤ pos x) (top +ℤ pos y) →
    pos (64 * sample)
    ≡ filtered (filter taps 0) (filter taps 0) 8
    (λ i j. pos (reference (l +ℤ pos x +ℤ pos i) (t +ℤ pos y +ℤ pos j)))
whole_bytes reference taps x y sample l t left top is el et es =
    whole_joined reference taps 8 x y (64 * sample) l t left top is (omega arith, omega arith) el et
    (ap (λ (v : ℕ). 64 * v) es)

pub across_joined : (reference : ℤ → ℤ → ℕ) (taps fraction : ℕ) (l t left top : ℤ) (window : List ℕ) (w h x y : ℕ) →
    ((taps ≡ 8) ⊎ (taps ≡ 4)) → x < w → y < h → left ≡ l → top ≡ t +ℤ (pos (taps / 2) -ℤ pos 1) →
    ((i j : ℕ) → i + 1 < w + taps → j < h → at window (72 * j + i) ≡ reference (left +ℤ pos i) (top +ℤ pos j)) →
    tapped taps fraction 1 window (72 * y + x)
    ≡ filtered (filter taps fraction) (filter taps 0) 8
    (λ i j. pos (reference (l +ℤ pos x +ℤ pos i) (t +ℤ pos y +ℤ pos j)))
across_joined reference taps fraction l t left top window w h x y is m n el e gathered =
    let row = middle_is taps t top y is e in
    tapped_is taps fraction 1 window (72 * y + x)
    (λ i. reference (l +ℤ pos x +ℤ pos i) (t +ℤ pos y +ℤ pos (taps / 2 - 1))) (at_least taps is) (λ i lt.
    let f : 72 * y + x + 1 * i ≡ 72 * y + (x + i) = omega arith in
    let p : l +ℤ pos x +ℤ pos i ≡ left +ℤ pos (x + i) = omega (arith, ints, el) in
    rw (f, p, ← row) (gathered (x + i) y (omega (arith, m, lt)) n))
    ∙ across_alone taps fraction (λ i j. pos (reference (l +ℤ pos x +ℤ pos i) (t +ℤ pos y +ℤ pos j))) is

pub down_joined : (reference : ℤ → ℤ → ℕ) (taps fraction : ℕ) (l t left top : ℤ) (window : List ℕ) (w h x y : ℕ) →
    ((taps ≡ 8) ⊎ (taps ≡ 4)) → x < w → y < h → left ≡ l +ℤ (pos (taps / 2) -ℤ pos 1) → top ≡ t →
    ((i j : ℕ) → i < w → j + 1 < h + taps → at window (72 * j + i) ≡ reference (left +ℤ pos i) (top +ℤ pos j)) →
    tapped taps fraction 72 window (72 * y + x)
    ≡ filtered (filter taps 0) (filter taps fraction) 8
    (λ i j. pos (reference (l +ℤ pos x +ℤ pos i) (t +ℤ pos y +ℤ pos j)))
down_joined reference taps fraction l t left top window w h x y is m n e et gathered =
    let column = middle_is taps l left x is e in
    tapped_is taps fraction 72 window (72 * y + x)
    (λ j. reference (l +ℤ pos x +ℤ pos (taps / 2 - 1)) (t +ℤ pos y +ℤ pos j)) (at_least taps is) (λ j lt.
    let f : 72 * y + x + 72 * j ≡ 72 * (y + j) + x = omega arith in
    let p : t +ℤ pos y +ℤ pos j ≡ top +ℤ pos (y + j) = omega (arith, ints, et) in
    rw (f, p, ← column) (gathered x (y + j) m (omega (arith, n, lt))))
    ∙ down_alone taps fraction (λ i j. reference (l +ℤ pos x +ℤ pos i) (t +ℤ pos y +ℤ pos j)) is

pub both_joined : (reference : ℤ → ℤ → ℕ) (taps fx fy : ℕ) (l t : ℤ) (window middle : List ℕ) (w h x y : ℕ) →
    4 ≤ taps → x < w → y < h →
    ((i j : ℕ) → i + 1 < w + taps → j + 1 < h + taps
    → at window (72 * j + i) ≡ reference (l +ℤ pos i) (t +ℤ pos j)) →
    ((i j : ℕ) → i < w → j + 1 < h + taps
    → pos (at middle (64 * j + i)) ≡ pos 6144 +ℤ tapped taps fx 1 window (72 * j + i)) →
    down taps fy middle (64 * y + x)
    ≡ filtered (filter taps fx) (filter taps fy) 8
    (λ i j. pos (reference (l +ℤ pos x +ℤ pos i) (t +ℤ pos y +ℤ pos j)))
unfolding down
both_joined reference taps fx fy l t window middle w h x y four m n gathered lines =
    ap (λ (z : ℤ). int_shr z 6) (filter_same taps fy _ _ four (λ j few.
    let line = lines x (y + j) m (omega (arith, n, few)) in
    let s : tapped taps fx 1 window (72 * (y + j) + x)
    ≡ filter taps fx (λ i. pos (reference (l +ℤ pos x +ℤ pos i) (t +ℤ pos y +ℤ pos j))) =
    tapped_is taps fx 1 window (72 * (y + j) + x) (λ i. reference (l +ℤ pos x +ℤ pos i) (t +ℤ pos y +ℤ pos j)) four
    (λ i less.
    let f : 72 * (y + j) + x + 1 * i ≡ 72 * (y + j) + (x + i) = omega arith in
    let p : l +ℤ pos x +ℤ pos i ≡ l +ℤ pos (x + i) = omega (arith, ints) in
    let q : t +ℤ pos y +ℤ pos j ≡ t +ℤ pos (y + j) = omega (arith, ints) in
    rw (f, p, q) (gathered (x + i) (y + j) (omega (arith, m, less)) (omega (arith, n, few)))) in
    let e : 64 * y + x + 64 * j ≡ 64 * (y + j) + x = omega arith in
    let u : pos (at middle (64 * (y + j) + x)) -ℤ pos 6144 ≡ tapped taps fx 1 window (72 * (y + j) + x) =
    omega (arith, ints, line) in
    ap (λ (v : ℕ). pos (at middle v) -ℤ pos 6144) e ∙ u ∙ s ∙ sym (unshifted _)))
