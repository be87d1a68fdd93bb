-- Samples at 14 bits.
use Rattle.std.proofs.Common.{◌≡◌, ℕ, zero, suc, ◌+◌, ◌-◌, ◌*◌, ◌%◌, ◌^◌, ◌<◌, ◌≤◌, inl, inr, sym, ap, mod-eq_of_lt}
use Rattle.std.proofs.Common.{ℤ}
use Rattle.std.proofs.Common.{pos, negsuc, ◌*ℤ◌, ◌∙◌, arith}
use Rattle.std.proofs.lemmas.Int.{ints}
use Rattle.std.specs.Int.{int_shr}
use Rattle.spec_inter_prediction.specs.Taps.{luma_taps, chroma_taps, luma_filter, chroma_filter, IsDepth}
use Rattle.std.proofs.lemmas.Bool.Decides.{nat_tests}
use Rattle.inter_pred.specs.Passes.{filter}
use Rattle.inter_pred.proofs.Bases.{cases_eq, last_luma, last_chroma}

power_less : (n sample : ℕ) → n ≤ 6 → sample < 2 ^ (14 - n) → 2 ^ n * sample ≤ 16383
power_less zero sample few small = omega (arith, small)
power_less (suc zero) sample few small = omega (arith, small)
power_less (suc (suc zero)) sample few small = omega (arith, small)
power_less (suc (suc (suc zero))) sample few small = omega (arith, small)
power_less (suc (suc (suc (suc zero)))) sample few small = omega (arith, small)
power_less (suc (suc (suc (suc (suc zero))))) sample few small = omega (arith, small)
power_less (suc (suc (suc (suc (suc (suc zero)))))) sample few small = omega (arith, small)
power_less (suc (suc (suc (suc (suc (suc (suc n))))))) sample few small = absurd (omega (arith, few))

pub raised_high : (depth sample : ℕ) → IsDepth depth → sample < 2 ^ depth → 2 ^ (14 - depth) * sample ≤ 16383
raised_high depth sample is small =
    let e : 14 - (14 - depth) ≡ depth = omega (arith, is) in
    power_less (14 - depth) sample (omega (arith, is)) (rw e small)

pub raised_is : (depth sample : ℕ) → IsDepth depth → sample < 2 ^ depth
    → sample * 2 ^ (14 - depth) % 65536 ≡ 2 ^ (14 - depth) * sample
raised_is depth sample is small =
    let h = raised_high depth sample is small in
    let c : sample * 2 ^ (14 - depth) ≡ 2 ^ (14 - depth) * sample = grind arith in
    rw c (mod-eq_of_lt (omega (arith, h)))

doubled : (n s : ℕ) → pos (2 ^ suc n * s) ≡ pos 2 *ℤ pos (2 ^ n * s)
doubled n s =
    let e : 2 ^ suc n * s ≡ 2 * (2 ^ n * s) = grind arith in
    omega (arith, ints, e)

-- twice a number, in units twice as large
halved : (k : ℕ) (z : ℤ) → k ≤ 5 → int_shr (pos 2 *ℤ z) (suc k) ≡ int_shr z k
halved zero (pos n) few = grind (arith, ints)
halved (suc zero) (pos n) few = grind (arith, ints)
halved (suc (suc zero)) (pos n) few = grind (arith, ints)
halved (suc (suc (suc zero))) (pos n) few = grind (arith, ints)
halved (suc (suc (suc (suc zero)))) (pos n) few = grind (arith, ints)
halved (suc (suc (suc (suc (suc zero))))) (pos n) few = grind (arith, ints)
halved zero (negsuc n) few = grind (arith, ints)
halved (suc zero) (negsuc n) few = grind (arith, ints)
halved (suc (suc zero)) (negsuc n) few = grind (arith, ints)
halved (suc (suc (suc zero))) (negsuc n) few = grind (arith, ints)
halved (suc (suc (suc (suc zero)))) (negsuc n) few = grind (arith, ints)
halved (suc (suc (suc (suc (suc zero))))) (negsuc n) few = grind (arith, ints)
halved (suc (suc (suc (suc (suc (suc k)))))) z few = absurd (omega (arith, few))

third_double : (a b c d e f g h : ℤ)
    → luma_taps 3 (pos 2 *ℤ a) (pos 2 *ℤ b) (pos 2 *ℤ c) (pos 2 *ℤ d) (pos 2 *ℤ e) (pos 2 *ℤ f) (pos 2 *ℤ g)
    (pos 2 *ℤ h)
    ≡ pos 2 *ℤ luma_taps 3 a b c d e f g h
unfolding luma_taps
third_double a b c d e f g h = omega (arith, ints)

luma_double : (q : ℕ) (a b c d e f g h : ℤ)
    → luma_taps q (pos 2 *ℤ a) (pos 2 *ℤ b) (pos 2 *ℤ c) (pos 2 *ℤ d) (pos 2 *ℤ e) (pos 2 *ℤ f) (pos 2 *ℤ g)
    (pos 2 *ℤ h)
    ≡ pos 2 *ℤ luma_taps q a b c d e f g h
unfolding luma_taps
luma_double zero a b c d e f g h = omega (arith, ints)
luma_double (suc zero) a b c d e f g h = omega (arith, ints)
luma_double (suc (suc zero)) a b c d e f g h = omega (arith, ints)
luma_double (suc (suc (suc n))) a b c d e f g h =
    let lt : 2 < suc (suc (suc n)) = omega arith in
    last_luma _ (pos 2 *ℤ a) (pos 2 *ℤ b) (pos 2 *ℤ c) (pos 2 *ℤ d) (pos 2 *ℤ e) (pos 2 *ℤ f) (pos 2 *ℤ g)
    (pos 2 *ℤ h) lt
    ∙ third_double a b c d e f g h ∙ ap (λ (v : ℤ). pos 2 *ℤ v) (sym (last_luma _ a b c d e f g h lt))

seventh_double : (a b c d : ℤ)
    → chroma_taps 7 (pos 2 *ℤ a) (pos 2 *ℤ b) (pos 2 *ℤ c) (pos 2 *ℤ d) ≡ pos 2 *ℤ chroma_taps 7 a b c d
unfolding chroma_taps
seventh_double a b c d = omega (arith, ints)

chroma_double : (q : ℕ) (a b c d : ℤ)
    → chroma_taps q (pos 2 *ℤ a) (pos 2 *ℤ b) (pos 2 *ℤ c) (pos 2 *ℤ d) ≡ pos 2 *ℤ chroma_taps q a b c d
unfolding chroma_taps
chroma_double zero a b c d = omega (arith, ints)
chroma_double (suc zero) a b c d = omega (arith, ints)
chroma_double (suc (suc zero)) a b c d = omega (arith, ints)
chroma_double (suc (suc (suc zero))) a b c d = omega (arith, ints)
chroma_double (suc (suc (suc (suc zero)))) a b c d = omega (arith, ints)
chroma_double (suc (suc (suc (suc (suc zero))))) a b c d = omega (arith, ints)
chroma_double (suc (suc (suc (suc (suc (suc zero)))))) a b c d = omega (arith, ints)
chroma_double (suc (suc (suc (suc (suc (suc (suc n))))))) a b c d =
    let lt : 6 < suc (suc (suc (suc (suc (suc (suc n)))))) = omega arith in
    last_chroma _ (pos 2 *ℤ a) (pos 2 *ℤ b) (pos 2 *ℤ c) (pos 2 *ℤ d) lt ∙ seventh_double a b c d
    ∙ ap (λ (v : ℤ). pos 2 *ℤ v) (sym (last_chroma _ a b c d lt))

filter_double : (taps q : ℕ) (s : ℕ → ℤ) → filter taps q (λ k. pos 2 *ℤ s k) ≡ pos 2 *ℤ filter taps q s
filter_double taps q s = elim (cases_eq taps) [
  | inl eight ↦ rw eight (luma_double q (s 0) (s 1) (s 2) (s 3) (s 4) (s 5) (s 6) (s 7))
  | inr other ↦ rw other (chroma_double q (s 0) (s 1) (s 2) (s 3))
]

luma_same : (q : ℕ) (s t : ℕ → ℤ) → ((k : ℕ) → k < 8 → s k ≡ t k) → luma_filter q s ≡ luma_filter q t
luma_same q s t h =
    let a : s 0 ≡ t 0 = h 0 (omega arith) in
    let b : s 1 ≡ t 1 = h 1 (omega arith) in
    let c : s 2 ≡ t 2 = h 2 (omega arith) in
    let d : s 3 ≡ t 3 = h 3 (omega arith) in
    let e : s 4 ≡ t 4 = h 4 (omega arith) in
    let f : s 5 ≡ t 5 = h 5 (omega arith) in
    let g : s 6 ≡ t 6 = h 6 (omega arith) in
    let i : s 7 ≡ t 7 = h 7 (omega arith) in
    cc

chroma_same : (q : ℕ) (s t : ℕ → ℤ) → ((k : ℕ) → k < 4 → s k ≡ t k) → chroma_filter q s ≡ chroma_filter q t
chroma_same q s t h =
    let a : s 0 ≡ t 0 = h 0 (omega arith) in
    let b : s 1 ≡ t 1 = h 1 (omega arith) in
    let c : s 2 ≡ t 2 = h 2 (omega arith) in
    let d : s 3 ≡ t 3 = h 3 (omega arith) in
    cc

-- a filter depends on as many values as it has taps
pub filter_same : (taps q : ℕ) (s t : ℕ → ℤ) → 4 ≤ taps → ((k : ℕ) → k < taps → s k ≡ t k)
    → filter taps q s ≡ filter taps q t
filter_same taps q s t few h = elim (cases_eq taps) [
  | inl eight ↦
      let e : taps ≡ 8 = grind (arith, nat_tests) in rw eight (luma_same q s t (λ k lt. h k (omega (arith, e))))
  | inr other ↦ rw other (chroma_same q s t (λ k lt. h k (omega (arith, few))))
]

shifted : (n m taps q : ℕ) (s : ℕ → ℕ) → 4 ≤ taps → n + m ≤ 6
    → int_shr (filter taps q (λ k. pos (2 ^ n * s k))) (n + m) ≡ int_shr (filter taps q (λ k. pos (s k))) m
shifted zero m taps q s four few =
    let z : 0 + m ≡ m = omega arith in
    rw z (ap (λ (z : ℤ). int_shr z m)
    (filter_same taps q _ _ four (λ k lt. let e : 2 ^ 0 * s k ≡ s k = omega arith in ap (λ (v : ℕ). pos v) e)))
shifted (suc n) m taps q s four few =
    let d : filter taps q (λ k. pos (2 ^ suc n * s k)) ≡ pos 2 *ℤ filter taps q (λ k. pos (2 ^ n * s k)) =
    filter_same taps q _ _ four (λ k lt. doubled n (s k)) ∙ filter_double taps q (λ k. pos (2 ^ n * s k)) in
    let z : suc n + m ≡ suc (n + m) = omega arith in
    rw (d, z) (halved (n + m) _ (omega (arith, few)) ∙ shifted n m taps q s four (omega (arith, few)))

-- samples at 14 bits in units of 64 are samples in units of 2^(depth - 8)
pub raised_filter : (depth taps q : ℕ) (s : ℕ → ℕ) → IsDepth depth → 4 ≤ taps
    → int_shr (filter taps q (λ k. pos (2 ^ (14 - depth) * s k))) 6
    ≡ int_shr (filter taps q (λ k. pos (s k))) (depth - 8)
raised_filter depth taps q s is four =
    let e : 14 - depth + (depth - 8) ≡ 6 = omega (arith, is) in
    let f : 14 - depth + (depth - 8) ≤ 6 = omega (arith, e) in
    rw e at (shifted (14 - depth) (depth - 8) taps q s four f)
