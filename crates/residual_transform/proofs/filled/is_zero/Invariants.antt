use Rattle.std.proofs.Common.{◌≡◌, ℕ, ◌+◌, ◌<◌, true, pos}
use Rattle.spec_transforms.specs.Matrices.{at}
use Rattle.residual_transform.proofs.filled.is_zero.Given as goal

abbrev pub invariant-loop-k : goal.invariant-loop-k
invariant-loop-k g l = record {
  told : l.zero ≡ true → (j : ℕ) → j < l.k → at l.numbers (l.start + j) ≡ pos 0;
  only : ((j : ℕ) → j < l.k → at l.numbers (l.start + j) ≡ pos 0) → l.zero ≡ true;
}
