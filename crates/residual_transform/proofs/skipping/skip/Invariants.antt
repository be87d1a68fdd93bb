use Rattle.std.proofs.Common.{◌≡◌, ℕ, ◌<◌}
use Rattle.spec_transforms.specs.Matrices.{at}
use Rattle.spec_transforms.specs.Transforms.{IsResidual, skipped}
use Rattle.residual_transform.proofs.skipping.skip.Given as goal

abbrev pub invariant-loop-i : goal.invariant-loop-i
invariant-loop-i l = record {
  told : (k : ℕ) → k < l.i → at l.out k ≡ skipped l.depth (at l.d k);
  small : (k : ℕ) → k < l.i → IsResidual (at l.out k);
}
