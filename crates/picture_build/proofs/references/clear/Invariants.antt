use Rattle.std.proofs.Common.{◌≡◌, ◌<◌, ℕ}
use Rattle.inter_pred.specs.Passes.{at}
use Rattle.picture_build.proofs.references.clear.Given as goal

abbrev pub invariant-loop-k : goal.invariant-loop-k
invariant-loop-k l = (i : ℕ) → i < l.k → at l.line i ≡ 0
