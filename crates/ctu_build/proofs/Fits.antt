-- Squares of luma lie in the greatest unit.
use Rattle.std.proofs.Common.{◌≡◌, ℕ, ◌+◌, ◌*◌, ◌^◌, ◌≤◌, arith}
use Rattle.ctu_build.proofs.Sizes.{luma_side}

pub luma_fits : (x y n m : ℕ) → y ≡ x → n ≡ m → x + 2 ^ m ≤ 16 → 4 * y + 2 ^ (n + 2) ≤ 64
luma_fits x y n m e f h = rw (e, f) (omega (arith, h, luma_side m))
