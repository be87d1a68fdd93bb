-- Columns of units.
use Rattle.std.proofs.Common.{◌≡◌, ◌≢◌, ℕ, ◌+◌, ◌-◌, ◌*◌, ◌/◌, ◌%◌, ◌<◌, ◌≤◌, Bool, true, false, nat_lt, ap, sym}
use Rattle.std.proofs.Common.{refl, ◌∙◌, arith}
use Rattle.std.proofs.lemmas.Bool.Decides.{nat_tests}
use Rattle.std.proofs.Math.Nat.{add-mod_right, mod-eq-sub-div-mul, div-mul-le_self, mul-le-mul_right}

-- a number by its row and its column
whole : (a w : ℕ) → a / w * w + a % w ≡ a
whole a w = omega (arith, mod-eq-sub-div-mul a w, div-mul-le_self a w)

higher : (i j w : ℕ) → i < j → i * w + w ≤ j * w
higher i j w lt =
    let le : (i + 1) * w ≤ j * w = mul-le-mul_right {m = i + 1} {n = j} w (omega arith) in omega (arith, le)

not_lower : (i j w a m r : ℕ) → j ≤ i → i * w + r ≡ a → j * w + r ≡ m → a < m → ⊥
not_lower i j w a m r le ea em lt =
    let below : j * w ≤ i * w = mul-le-mul_right {m = j} {n = i} w le in omega (arith, below, ea, em)

not_higher : (i j w a m r : ℕ) → i < j → i * w + r ≡ a → j * w + r ≡ m → m < a + w → ⊥
not_higher i j w a m r less ea em near = omega (arith, higher i j w less, ea, em)

apart : (test : Bool) (i j w a m r : ℕ) → nat_lt i j ≡ test → i * w + r ≡ a → j * w + r ≡ m → a < m → m < a + w → ⊥
apart true i j w a m r e ea em lt near = not_higher i j w a m r (grind (arith, nat_tests)) ea em near
apart false i j w a m r e ea em lt near = not_lower i j w a m r (grind (arith, nat_tests)) ea em lt

-- fewer numbers than a row has stand in different columns
pub other_column : (a m w : ℕ) → a < m → m < a + w → a % w ≢ m % w
other_column a m w lt near same =
    let em : m / w * w + a % w ≡ m = ap (λ k. m / w * w + k) same ∙ whole m w in
    apart (nat_lt (a / w) (m / w)) (a / w) (m / w) w a m (a % w) refl (whole a w) em lt near

-- the column of the unit above is the unit's own
pub above_column : (a w : ℕ) → w ≤ a → (a - w) % w ≡ a % w
above_column a w le = let e : a - w + w ≡ a = omega arith in sym (add-mod_right (a - w) w) ∙ ap (λ k. k % w) e
