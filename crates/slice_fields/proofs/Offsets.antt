-- Signed numbers on both sides of 0.
use Rattle.std.proofs.Common.{◌≡◌, ℕ, ℤ, pos, negsuc, refl}
use Rattle.std.specs.Prelude.{nat_le}
use Rattle.std.specs.Int.RustNames.{unsigned_abs}
use Rattle.spec_formats.specs.Fields.{is_within}

-- a number is from -n to n where its absolute value is at most n
pub abs_is_within : (n : ℕ) (z : ℤ) → is_within n n z ≡ nat_le (unsigned_abs z) n
abs_is_within n (pos m) = refl
abs_is_within n (negsuc m) = refl
