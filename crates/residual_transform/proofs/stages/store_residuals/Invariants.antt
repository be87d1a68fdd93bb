use Rattle.std.proofs.Common.{◌≡◌, ℕ, ◌+◌, ◌<◌}
use Rattle.spec_transforms.specs.Matrices.{at}
use Rattle.spec_transforms.specs.Transforms.{IsResidual, residual_of}
use Rattle.residual_transform.proofs.stages.store_residuals.Given as goal

abbrev pub invariant-loop-j : goal.invariant-loop-j
invariant-loop-j g l = record {
  here : (i : ℕ) → i < l.j → at l.out (l.start + i) ≡ residual_of l.depth (at l.sums i);
  before : (i : ℕ) → i < l.start → at l.out i ≡ at l.fn.out i;
  small : (i : ℕ) → i < l.j → IsResidual (at l.out (l.start + i));
}
