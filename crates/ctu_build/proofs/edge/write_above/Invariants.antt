use Rattle.std.proofs.Common.{◌≡◌, ◌≤◌, ◌<◌, ◌+◌, ◌-◌, ◌*◌, ℕ, cond}
use Rattle.ctu_build.specs.Beside.{above_cell, is_known, value_in}
use Rattle.spec_intra_prediction.specs.Neighbours.{at}
use Rattle.ctu_build.proofs.edge.write_above.Given as goal

abbrev pub invariant-loop-group : goal.invariant-loop-group
invariant-loop-group l = record {
  told : (k : ℕ) → 4 * l.beside.groups < k → k ≤ 4 * (l.beside.groups + l.group)
      → at l.edge k
      ≡ cond (is_known l.beside (above_cell l.beside k)) (value_in l.beside (above_cell l.beside k))
      (at l.edge (k - 1));
  rest : (k : ℕ) → k ≤ 4 * l.beside.groups → at l.edge k ≡ at l.fn.edge k;
}
