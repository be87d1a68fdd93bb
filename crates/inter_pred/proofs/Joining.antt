-- The window, its lines and its columns as the sample that the standard predicts.
use Rattle.std.proofs.Common.{◌≡◌, ◌∙◌, ap, sym, refl, inl, inr, ◌⊎◌, ◌/◌, ℕ, ◌+◌, ◌-◌, ◌*◌, ◌^◌, ◌<◌, ◌≤◌, List, ℤ}
use Rattle.std.proofs.Common.{pos, negsuc, ◌+ℤ◌, ◌-ℤ◌, ◌*ℤ◌, arith}
use Rattle.std.proofs.lemmas.Int.{ints}
use Rattle.std.specs.Int.{int_shr}
use Rattle.spec_inter_prediction.specs.Taps.{luma_taps, chroma_taps, filtered, IsDepth}
use Rattle.spec_inter_prediction.specs.Luma.{quarter, luma_first, luma_sample}
use Rattle.spec_inter_prediction.specs.Chroma.{eighth, chroma_first, chroma_sample}
use Rattle.inter_pred.specs.Passes.{at, filter, across, down}
use Rattle.inter_pred.proofs.Raising.{filter_same, raised_filter}

filtered_same : (taps fx fy depth : ℕ) (s t : ℕ → ℕ → ℤ) → 4 ≤ taps → ((i j : ℕ) → s i j ≡ t i j)
    → filtered (filter taps fx) (filter taps fy) depth s ≡ filtered (filter taps fx) (filter taps fy) depth t
filtered_same taps fx fy depth s t four same =
    ap (λ (z : ℤ). int_shr z 6) (filter_same taps fy _ _ four (λ j lt.
    ap (λ (z : ℤ). int_shr z (depth - 8)) (filter_same taps fx _ _ four (λ i less. same i j))))

sample_same : (reference : ℤ → ℤ → ℕ) (a b c d : ℤ) → a ≡ b → c ≡ d → pos (reference a c) ≡ pos (reference b d)
sample_same reference a b c d p q = rw (p, q) refl

pub unscaled : (z : ℤ) → int_shr (pos 64 *ℤ z) 6 ≡ z
unscaled (pos n) = grind (arith, ints)
unscaled (negsuc n) = grind (arith, ints)

-- whole places need no case of their own
pub whole_luma : (depth : ℕ) (s : ℕ → ℕ → ℕ) → IsDepth depth
    → pos (2 ^ (14 - depth) * s 3 3) ≡ filtered (filter 8 0) (filter 8 0) depth (λ i j. pos (s i j))
unfolding luma_taps
whole_luma depth s is = sym (unscaled _) ∙ raised_filter depth 8 0 (λ k. s 3 3) is (omega arith) ∙ sym (unscaled _)

pub whole_chroma : (depth : ℕ) (s : ℕ → ℕ → ℕ) → IsDepth depth
    → pos (2 ^ (14 - depth) * s 1 1) ≡ filtered (filter 4 0) (filter 4 0) depth (λ i j. pos (s i j))
unfolding chroma_taps
whole_chroma depth s is = sym (unscaled _) ∙ raised_filter depth 4 0 (λ k. s 1 1) is (omega arith) ∙ sym (unscaled _)

pub whole_joined : (reference : ℤ → ℤ → ℕ) (taps depth x y sample : ℕ) (l t left top : ℤ) →
    ((taps ≡ 8) ⊎ (taps ≡ 4)) → IsDepth depth →
    left ≡ l +ℤ (pos (taps / 2) -ℤ pos 1) → top ≡ t +ℤ (pos (taps / 2) -ℤ pos 1) →
    sample ≡ 2 ^ (14 - depth) * reference (left +ℤ pos x) (top +ℤ pos y) →
    pos sample
    ≡ filtered (filter taps 0) (filter taps 0) depth
    (λ i j. pos (reference (l +ℤ pos x +ℤ pos i) (t +ℤ pos y +ℤ pos j)))
whole_joined reference taps depth x y sample l t left top (inl eight) is el et es =
    let p : left +ℤ pos x ≡ l +ℤ pos x +ℤ pos 3 = omega (arith, ints, el, eight) in
    let q : top +ℤ pos y ≡ t +ℤ pos y +ℤ pos 3 = omega (arith, ints, et, eight) in
    rw (es, p, q, eight) (whole_luma depth (λ i j. reference (l +ℤ pos x +ℤ pos i) (t +ℤ pos y +ℤ pos j)) is)
whole_joined reference taps depth x y sample l t left top (inr four) is el et es =
    let p : left +ℤ pos x ≡ l +ℤ pos x +ℤ pos 1 = omega (arith, ints, el, four) in
    let q : top +ℤ pos y ≡ t +ℤ pos y +ℤ pos 1 = omega (arith, ints, et, four) in
    rw (es, p, q, four) (whole_chroma depth (λ i j. reference (l +ℤ pos x +ℤ pos i) (t +ℤ pos y +ℤ pos j)) is)

pub joined : (reference : ℤ → ℤ → ℕ) (taps fx fy depth : ℕ) (l t : ℤ) (window middle : List ℕ) (w h x y : ℕ) →
    4 ≤ taps → IsDepth depth → x < w → y < h →
    ((i j : ℕ) → i + 1 < w + taps → j + 1 < h + taps
    → at window (72 * j + i) ≡ 2 ^ (14 - depth) * reference (l +ℤ pos i) (t +ℤ pos j)) →
    ((i j : ℕ) → i < w → j + 1 < h + taps
    → pos (at middle (64 * j + i)) ≡ pos 6144 +ℤ across taps fx window (72 * j + i)) →
    down taps fy middle (64 * y + x)
    ≡ filtered (filter taps fx) (filter taps fy) depth
    (λ i j. pos (reference (l +ℤ pos x +ℤ pos i) (t +ℤ pos y +ℤ pos j)))
unfolding down across
joined reference taps fx fy depth l t window middle w h x y four is m n gathered lines =
    ap (λ (z : ℤ). int_shr z 6) (filter_same taps fy _ _ four (λ j few.
    let line = lines x (y + j) m (omega (arith, n, few)) in
    let s : int_shr (filter taps fx (λ i. pos (at window (72 * (y + j) + x + i)))) 6
    ≡ int_shr (filter taps fx (λ i. pos (reference (l +ℤ pos x +ℤ pos i) (t +ℤ pos y +ℤ pos j)))) (depth - 8) =
    ap (λ (z : ℤ). int_shr z 6)
    (filter_same taps fx (λ i. pos (at window (72 * (y + j) + x + i)))
    (λ i. pos (2 ^ (14 - depth) * reference (l +ℤ pos x +ℤ pos i) (t +ℤ pos y +ℤ pos j))) four (λ i less.
    let f : 72 * (y + j) + x + i ≡ 72 * (y + j) + (x + i) = omega arith in
    let p : l +ℤ pos x +ℤ pos i ≡ l +ℤ pos (x + i) = omega (arith, ints) in
    let q : t +ℤ pos y +ℤ pos j ≡ t +ℤ pos (y + j) = omega (arith, ints) in
    rw (f, p, q) (ap (λ (v : ℕ). pos v) (gathered (x + i) (y + j) (omega (arith, m, less)) (omega (arith, n, few))))))
    ∙ raised_filter depth taps fx (λ i. reference (l +ℤ pos x +ℤ pos i) (t +ℤ pos y +ℤ pos j)) is four in
    let e : 64 * y + x + 64 * j ≡ 64 * (y + j) + x = omega arith in
    let u : pos (at middle (64 * (y + j) + x)) -ℤ pos 6144
    ≡ int_shr (filter taps fx (λ i. pos (at window (72 * (y + j) + x + i)))) 6 = omega (arith, ints, line) in
    ap (λ (v : ℕ). pos (at middle v) -ℤ pos 6144) e ∙ u ∙ s))

pub luma_joined : (reference : ℤ → ℤ → ℕ) (depth left top x y fx fy : ℕ) (v w l t z : ℤ) → fx ≡ quarter v →
    fy ≡ quarter w → l ≡ luma_first left v → t ≡ luma_first top w →
    z
    ≡ filtered (filter 8 fx) (filter 8 fy) depth (λ i j. pos (reference (l +ℤ pos x +ℤ pos i) (t +ℤ pos y +ℤ pos j))) →
    z ≡ luma_sample depth reference v w (left + x) (top + y)
unfolding luma_sample
luma_joined reference depth left top x y fx fy v w l t z efx efy el et ez =
    rw (← efx, ← efy) (ez
    ∙ filtered_same 8 fx fy depth (λ i j. pos (reference (l +ℤ pos x +ℤ pos i) (t +ℤ pos y +ℤ pos j)))
    (λ i j. pos (reference (luma_first (left + x) v +ℤ pos i) (luma_first (top + y) w +ℤ pos j))) (omega arith)
    (λ i j. sample_same reference _ _ _ _ (omega (arith, ints, el)) (omega (arith, ints, et))))

pub chroma_joined : (reference : ℤ → ℤ → ℕ) (depth left top x y fx fy : ℕ) (v w l t z : ℤ) → fx ≡ eighth v →
    fy ≡ eighth w → l ≡ chroma_first left v → t ≡ chroma_first top w →
    z
    ≡ filtered (filter 4 fx) (filter 4 fy) depth (λ i j. pos (reference (l +ℤ pos x +ℤ pos i) (t +ℤ pos y +ℤ pos j))) →
    z ≡ chroma_sample depth reference v w (left + x) (top + y)
unfolding chroma_sample
chroma_joined reference depth left top x y fx fy v w l t z efx efy el et ez =
    rw (← efx, ← efy) (ez
    ∙ filtered_same 4 fx fy depth (λ i j. pos (reference (l +ℤ pos x +ℤ pos i) (t +ℤ pos y +ℤ pos j)))
    (λ i j. pos (reference (chroma_first (left + x) v +ℤ pos i) (chroma_first (top + y) w +ℤ pos j))) (omega arith)
    (λ i j. sample_same reference _ _ _ _ (omega (arith, ints, el)) (omega (arith, ints, et))))
