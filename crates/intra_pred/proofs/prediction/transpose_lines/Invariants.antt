use Rattle.std.proofs.Common.{◌≡◌, ◌≤◌, ◌<◌, ℕ, ◌+◌, ◌*◌}
use Rattle.spec_intra_prediction.specs.Neighbours.{at}
use Rattle.intra_pred.proofs.prediction.transpose_lines.Given as goal

abbrev pub invariant-loop-y : goal.invariant-loop-y
invariant-loop-y g l = record {
  told : (i j : ℕ) → i < g.row.COUNT → j < l.y → at l.out (g.row.COUNT * j + i) ≡ at l.turned (g.row.COUNT * i + j);
  rest : (k : ℕ) → g.row.COUNT * g.row.COUNT ≤ k → at l.out k ≡ at l.fn.out k;
}
