-- Products and powers of two, and what they stay within.
use Rattle.std.proofs.Common.{◌≡◌, ℕ, ◌*◌, ◌^◌, ◌<◌, ◌≤◌, ℤ, ◌*ℤ◌, arith}
use Rattle.std.specs.Int.RustNames.{unsigned_abs}
use Rattle.std.proofs.lemmas.Int.{unsigned_abs-mul, to_z-of_z, fits_signed_mul}
use Rattle.std.proofs.Math.Nat.{mul-le-mul, pow-le-pow_right}
use mir.Val.{to_z, of_z, SFits}
use mir.Syntax.{w32}

pub product_within : (a b : ℤ) (m n : ℕ) → unsigned_abs a ≤ m → unsigned_abs b ≤ n → unsigned_abs (a *ℤ b) ≤ m * n
product_within a b m n p q = rw (unsigned_abs-mul a b) (mul-le-mul p q)

-- the product as the code computes it, which loses nothing
pub product_is : (a b : ℤ) (m n : ℕ) → unsigned_abs a ≤ m → unsigned_abs b ≤ n → m * n < 2147483648 → SFits w32 a
    → SFits w32 b
    → to_z w32 (of_z w32 (to_z w32 (of_z w32 a) *ℤ to_z w32 (of_z w32 b))) ≡ a *ℤ b
product_is a b m n p q few f g =
    let fits : SFits w32 (a *ℤ b) = fits_signed_mul w32 a b m n p q few in
    simp to_z-of_z

pub power_within : (n m : ℕ) → n ≤ m → 2 ^ n ≤ 2 ^ m
power_within n m le = let two : 0 < 2 = omega arith in pow-le-pow_right two le
