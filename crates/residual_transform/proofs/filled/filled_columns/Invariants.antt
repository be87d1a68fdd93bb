use Rattle.std.proofs.Common.{◌≡◌, ℕ, ◌+◌, ◌-◌, ◌*◌, ◌<◌, ◌≤◌, pos}
use Rattle.spec_transforms.specs.Matrices.{at}
use Rattle.residual_transform.proofs.filled.filled_columns.Given as goal

abbrev pub invariant-loop-k : goal.invariant-loop-k
invariant-loop-k g l = record {
  told : (x y : ℕ) → g.row.SIZE - l.k ≤ x → x < g.row.SIZE → y < l.rows → at l.d (g.row.SIZE * y + x) ≡ pos 0;
}
