-- Places inside a line.
use Rattle.std.proofs.Common.{◌≡◌, ℕ, ℤ, ◌+◌, ◌<◌, pos, ◌+ℤ◌, arith}
use Rattle.std.proofs.lemmas.Int.{ints, clamps}
use Rattle.spec_inter_prediction.specs.Taps.{clamped}

pub clamped_inside : (x k side : ℕ) → x + k < side → clamped (pos x +ℤ pos k) side ≡ x + k
unfolding clamped
clamped_inside x k side h = omega (arith, ints, clamps)

pub clamped_below : (v : ℤ) (side : ℕ) → 0 < side → clamped v side < side
unfolding clamped
clamped_below v side some = omega (arith, ints, clamps)
