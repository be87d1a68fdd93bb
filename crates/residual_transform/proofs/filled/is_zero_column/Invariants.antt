use Rattle.std.proofs.Common.{◌≡◌, ℕ, ◌+◌, ◌*◌, ◌<◌, pos}
use Rattle.spec_transforms.specs.Matrices.{at}
use Rattle.residual_transform.proofs.filled.is_zero_column.Given as goal

abbrev pub invariant-loop-y : goal.invariant-loop-y
invariant-loop-y g l = record {
  told : (j : ℕ) → j < l.y → at l.d (g.row.SIZE * j + l.column) ≡ pos 0;
}
