use Rattle.std.proofs.Common.{◌≡◌, ℕ, ◌-◌, ◌*◌, ◌≤◌, pos}
use Rattle.spec_transforms.specs.Matrices.{at}
use Rattle.residual_transform.proofs.filled.filled_rows.Given as goal

abbrev pub invariant-loop-k : goal.invariant-loop-k
invariant-loop-k g l = record {
  told : (i : ℕ) → g.row.SIZE * (g.row.SIZE - l.k) ≤ i → at l.d i ≡ pos 0;
}
