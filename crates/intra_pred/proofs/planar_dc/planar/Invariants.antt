use Rattle.std.proofs.Common.{◌≡◌, ◌≤◌, ◌<◌, ℕ, ◌+◌, ◌*◌}
use Rattle.spec_intra_prediction.specs.Neighbours.{at}
use Rattle.spec_intra_prediction.specs.PlanarDc.{planar}
use Rattle.intra_pred.proofs.planar_dc.planar.Given as goal

abbrev pub invariant-loop-y : goal.invariant-loop-y
invariant-loop-y l = record {
  told : (i j : ℕ) → i < l.n → j < l.y → at l.out (l.n * j + i) ≡ planar l.log2 l.edge i j;
  rest : (k : ℕ) → l.n * l.n ≤ k → at l.out k ≡ at l.fn.out k;
}
