-- Products of bounded numbers.
use Rattle.std.proofs.Common.{◌≡◌, ℕ, ◌+◌, ◌*◌, ◌^◌, ◌<◌, ◌≤◌, ℤ, pos, negsuc, ◌≤ℤ◌, ◌*ℤ◌, sym, arith}
use Rattle.std.specs.Int.RustNames.{unsigned_abs}
use Rattle.std.proofs.lemmas.Int.{ints, unsigned_abs-mul, to_z-of_z, fits_signed_mul}
use mir.Val.{to_z, of_z, SFits}
use mir.Syntax.{w32}
use Rattle.std.proofs.Math.Nat.{mul-le-mul}

abbrev pub computed : ℤ → ℤ → ℤ
computed a b = to_z w32 (of_z w32 (to_z w32 (of_z w32 a) *ℤ to_z w32 (of_z w32 b)))

-- the product as the code computes it, which loses nothing
pub product_is : (a b : ℤ) (m n : ℕ) → unsigned_abs a ≤ m → unsigned_abs b ≤ n → m * n < 2 ^ 31 → m < 2 ^ 31
    → n < 2 ^ 31 → computed a b ≡ a *ℤ b
product_is a b m n p q few low high =
    let f : SFits w32 a = omega (arith, ints) in
    let g : SFits w32 b = omega (arith, ints) in
    let h : SFits w32 (a *ℤ b) = fits_signed_mul w32 a b m n p q few in
    simp to_z-of_z

not_below : (z : ℤ) (n : ℕ) → unsigned_abs z ≤ n + 1 → negsuc n ≤ℤ z
not_below (pos z) n h = omega (arith, ints)
not_below (negsuc z) n h = omega (arith, ints)

not_above : (z : ℤ) (n : ℕ) → unsigned_abs z ≤ n → z ≤ℤ pos n
not_above (pos z) n h = omega (arith, ints)
not_above (negsuc z) n h = omega (arith, ints)

pub product_low : (a b : ℤ) (m n k : ℕ) → unsigned_abs a ≤ m → unsigned_abs b ≤ n → m * n ≡ k + 1 → m * n < 2 ^ 31
    → m < 2 ^ 31 → n < 2 ^ 31 → negsuc k ≤ℤ computed a b
product_low a b m n k p q e few low high =
    rw (product_is a b m n p q few low high)
    (not_below (a *ℤ b) k (rw (unsigned_abs-mul a b) (rw (sym e) (mul-le-mul p q))))

pub product_high : (a b : ℤ) (m n k : ℕ) → unsigned_abs a ≤ m → unsigned_abs b ≤ n → m * n ≡ k → m * n < 2 ^ 31
    → m < 2 ^ 31 → n < 2 ^ 31 → computed a b ≤ℤ pos k
product_high a b m n k p q e few low high =
    rw (product_is a b m n p q few low high)
    (not_above (a *ℤ b) k (rw (unsigned_abs-mul a b) (rw (sym e) (mul-le-mul p q))))
