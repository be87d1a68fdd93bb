use Rattle.std.proofs.Common.{◌≡◌, ◌<◌, ℕ, pos, ◌+ℤ◌, length, min}
use Rattle.spec_inter_prediction.specs.Taps.{clamped}
use Rattle.inter_pred.specs.Passes.{at}
use Rattle.inter_pred.proofs.line.outside_line.Given as goal

abbrev pub invariant-loop-k : goal.invariant-loop-k
invariant-loop-k l = (i : ℕ) → i < l.k → at l.out i
    ≡ min (at l.line (clamped (l.x +ℤ pos i) (length l.line))) l.greatest
