-- The weighted sums over natural numbers, on a base.
use Rattle.std.proofs.Common.{◌≡◌, ℕ, ◌+◌, ◌-◌, ◌*◌, ◌/◌, ◌<◌, ◌≤◌, ◌==◌, ◌∙◌, sym, ap, refl, Bool, true, false, ◌⊎◌}
use Rattle.std.proofs.Common.{inl, inr, zero, suc, ℤ, pos, negsuc, ◌+ℤ◌, ◌-ℤ◌, arith}
use Rattle.std.proofs.lemmas.Int.{ints}
use Rattle.std.proofs.lemmas.Bool.Decides.{nat_tests}
use Rattle.std.specs.Int.{int_shr}
use Rattle.spec_inter_prediction.specs.Taps.{luma_taps, chroma_taps}
use Rattle.inter_pred.specs.Passes.{filter}

bool_cases : (b : Bool) → (b ≡ true) ⊎ (b ≡ false)
bool_cases true = inl refl
bool_cases false = inr refl

pub cases_eq : (taps : ℕ) → ((taps == 8) ≡ true) ⊎ ((taps == 8) ≡ false)
cases_eq taps = bool_cases (taps == 8)

pub luma_1 : (z a b c d e f g h : ℕ) → a + 10 * c + 5 * f ≤ z →
    pos (z + 4 * b + 58 * d + 17 * e + g - a - 10 * c - 5 * f)
    ≡ pos z +ℤ luma_taps 1 (pos a) (pos b) (pos c) (pos d) (pos e) (pos f) (pos g) (pos h)
unfolding luma_taps
luma_1 z a b c d e f g h k = omega (arith, ints)

pub luma_2 : (z a b c d e f g h : ℕ) → a + 11 * c + 11 * f + h ≤ z →
    pos (z + 4 * b + 40 * d + 40 * e + 4 * g - a - 11 * c - 11 * f - h)
    ≡ pos z +ℤ luma_taps 2 (pos a) (pos b) (pos c) (pos d) (pos e) (pos f) (pos g) (pos h)
unfolding luma_taps
luma_2 z a b c d e f g h k = omega (arith, ints)

pub last_luma : (q : ℕ) (a b c d e f g h : ℤ) → 2 < q → luma_taps q a b c d e f g h ≡ luma_taps 3 a b c d e f g h
unfolding luma_taps
last_luma q a b c d e f g h lt = grind (arith, nat_tests)

luma_third : (z a b c d e f g h : ℕ) → 5 * c + 10 * f + h ≤ z →
    pos (z + b + 17 * d + 58 * e + 4 * g - 5 * c - 10 * f - h)
    ≡ pos z +ℤ luma_taps 3 (pos a) (pos b) (pos c) (pos d) (pos e) (pos f) (pos g) (pos h)
unfolding luma_taps
luma_third z a b c d e f g h k = omega (arith, ints)

pub luma_3 : (q z a b c d e f g h : ℕ) → 2 < q → 5 * c + 10 * f + h ≤ z →
    pos (z + b + 17 * d + 58 * e + 4 * g - 5 * c - 10 * f - h)
    ≡ pos z +ℤ luma_taps q (pos a) (pos b) (pos c) (pos d) (pos e) (pos f) (pos g) (pos h)
luma_3 q z a b c d e f g h lt k =
    luma_third z a b c d e f g h k ∙ ap (λ (v : ℤ). pos z +ℤ v) (sym (last_luma q _ _ _ _ _ _ _ _ lt))

pub chroma_1 : (z a b c d : ℕ) → 2 * a + 2 * d ≤ z
    → pos (z + 58 * b + 10 * c - 2 * a - 2 * d) ≡ pos z +ℤ chroma_taps 1 (pos a) (pos b) (pos c) (pos d)
unfolding chroma_taps
chroma_1 z a b c d k = omega (arith, ints)

pub chroma_2 : (z a b c d : ℕ) → 4 * a + 2 * d ≤ z
    → pos (z + 54 * b + 16 * c - 4 * a - 2 * d) ≡ pos z +ℤ chroma_taps 2 (pos a) (pos b) (pos c) (pos d)
unfolding chroma_taps
chroma_2 z a b c d k = omega (arith, ints)

pub chroma_3 : (z a b c d : ℕ) → 6 * a + 4 * d ≤ z
    → pos (z + 46 * b + 28 * c - 6 * a - 4 * d) ≡ pos z +ℤ chroma_taps 3 (pos a) (pos b) (pos c) (pos d)
unfolding chroma_taps
chroma_3 z a b c d k = omega (arith, ints)

pub chroma_4 : (z a b c d : ℕ) → 4 * a + 4 * d ≤ z
    → pos (z + 36 * b + 36 * c - 4 * a - 4 * d) ≡ pos z +ℤ chroma_taps 4 (pos a) (pos b) (pos c) (pos d)
unfolding chroma_taps
chroma_4 z a b c d k = omega (arith, ints)

pub chroma_5 : (z a b c d : ℕ) → 4 * a + 6 * d ≤ z
    → pos (z + 28 * b + 46 * c - 4 * a - 6 * d) ≡ pos z +ℤ chroma_taps 5 (pos a) (pos b) (pos c) (pos d)
unfolding chroma_taps
chroma_5 z a b c d k = omega (arith, ints)

pub chroma_6 : (z a b c d : ℕ) → 2 * a + 4 * d ≤ z
    → pos (z + 16 * b + 54 * c - 2 * a - 4 * d) ≡ pos z +ℤ chroma_taps 6 (pos a) (pos b) (pos c) (pos d)
unfolding chroma_taps
chroma_6 z a b c d k = omega (arith, ints)

pub last_chroma : (q : ℕ) (a b c d : ℤ) → 6 < q → chroma_taps q a b c d ≡ chroma_taps 7 a b c d
unfolding chroma_taps
last_chroma q a b c d lt = grind (arith, nat_tests)

chroma_seventh : (z a b c d : ℕ) → 2 * a + 2 * d ≤ z
    → pos (z + 10 * b + 58 * c - 2 * a - 2 * d) ≡ pos z +ℤ chroma_taps 7 (pos a) (pos b) (pos c) (pos d)
unfolding chroma_taps
chroma_seventh z a b c d k = omega (arith, ints)

pub chroma_7 : (q z a b c d : ℕ) → 6 < q → 2 * a + 2 * d ≤ z
    → pos (z + 10 * b + 58 * c - 2 * a - 2 * d) ≡ pos z +ℤ chroma_taps q (pos a) (pos b) (pos c) (pos d)
chroma_7 q z a b c d lt k = chroma_seventh z a b c d k ∙ ap (λ (v : ℤ). pos z +ℤ v) (sym (last_chroma q _ _ _ _ lt))

-- a sum in units of 64, with its base in units of 64
pub lowered : (base n : ℕ) (s : ℤ) → pos n ≡ pos (64 * base) +ℤ s → pos (n / 64) ≡ pos base +ℤ int_shr s 6
lowered base n (pos m) e = omega (arith, ints, e)
lowered base n (negsuc m) e = omega (arith, ints, e)

third_base : (a b c d e f g h : ℤ) → luma_taps 3 a b c d e f g h ≡ pos 393216
    +ℤ luma_taps 3 (a -ℤ pos 6144) (b -ℤ pos 6144) (c -ℤ pos 6144) (d -ℤ pos 6144) (e -ℤ pos 6144) (f -ℤ pos 6144)
    (g -ℤ pos 6144) (h -ℤ pos 6144)
unfolding luma_taps
third_base a b c d e f g h = omega (arith, ints)

luma_base : (q : ℕ) (a b c d e f g h : ℤ) → luma_taps q a b c d e f g h ≡ pos 393216
    +ℤ luma_taps q (a -ℤ pos 6144) (b -ℤ pos 6144) (c -ℤ pos 6144) (d -ℤ pos 6144) (e -ℤ pos 6144) (f -ℤ pos 6144)
    (g -ℤ pos 6144) (h -ℤ pos 6144)
unfolding luma_taps
luma_base zero a b c d e f g h = omega (arith, ints)
luma_base (suc zero) a b c d e f g h = omega (arith, ints)
luma_base (suc (suc zero)) a b c d e f g h = omega (arith, ints)
luma_base (suc (suc (suc n))) a b c d e f g h =
    let lt : 2 < suc (suc (suc n)) = omega arith in
    last_luma _ a b c d e f g h lt ∙ third_base a b c d e f g h
    ∙ ap (λ (v : ℤ). pos 393216 +ℤ v)
    (sym (last_luma _ (a -ℤ pos 6144) (b -ℤ pos 6144) (c -ℤ pos 6144) (d -ℤ pos 6144) (e -ℤ pos 6144) (f -ℤ pos 6144)
    (g -ℤ pos 6144) (h -ℤ pos 6144) lt))

seventh_base : (a b c d : ℤ)
    → chroma_taps 7 a b c d
    ≡ pos 393216 +ℤ chroma_taps 7 (a -ℤ pos 6144) (b -ℤ pos 6144) (c -ℤ pos 6144) (d -ℤ pos 6144)
unfolding chroma_taps
seventh_base a b c d = omega (arith, ints)

chroma_base : (q : ℕ) (a b c d : ℤ)
    → chroma_taps q a b c d
    ≡ pos 393216 +ℤ chroma_taps q (a -ℤ pos 6144) (b -ℤ pos 6144) (c -ℤ pos 6144) (d -ℤ pos 6144)
unfolding chroma_taps
chroma_base zero a b c d = omega (arith, ints)
chroma_base (suc zero) a b c d = omega (arith, ints)
chroma_base (suc (suc zero)) a b c d = omega (arith, ints)
chroma_base (suc (suc (suc zero))) a b c d = omega (arith, ints)
chroma_base (suc (suc (suc (suc zero)))) a b c d = omega (arith, ints)
chroma_base (suc (suc (suc (suc (suc zero))))) a b c d = omega (arith, ints)
chroma_base (suc (suc (suc (suc (suc (suc zero)))))) a b c d = omega (arith, ints)
chroma_base (suc (suc (suc (suc (suc (suc (suc n))))))) a b c d =
    let lt : 6 < suc (suc (suc (suc (suc (suc (suc n)))))) = omega arith in
    last_chroma _ a b c d lt ∙ seventh_base a b c d
    ∙ ap (λ (v : ℤ). pos 393216 +ℤ v)
    (sym (last_chroma _ (a -ℤ pos 6144) (b -ℤ pos 6144) (c -ℤ pos 6144) (d -ℤ pos 6144) lt))

-- values that stand 6144 above
pub filter_base : (taps q : ℕ) (s : ℕ → ℤ) → filter taps q s ≡ pos 393216 +ℤ filter taps q (λ k. s k -ℤ pos 6144)
filter_base taps q s = elim (cases_eq taps) [
  | inl eight ↦ rw eight (luma_base q (s 0) (s 1) (s 2) (s 3) (s 4) (s 5) (s 6) (s 7))
  | inr other ↦ rw other (chroma_base q (s 0) (s 1) (s 2) (s 3))
]
