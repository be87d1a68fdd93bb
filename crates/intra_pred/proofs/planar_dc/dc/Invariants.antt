use Rattle.std.proofs.Common.{◌≡◌, ◌≤◌, ◌<◌, ℕ, ◌+◌, ◌*◌}
use Rattle.spec_intra_prediction.specs.Neighbours.{at}
use Rattle.spec_intra_prediction.specs.PlanarDc.{levelled}
use Rattle.intra_pred.proofs.planar_dc.dc.Given as goal

abbrev pub invariant-loop-y : goal.invariant-loop-y
invariant-loop-y l = record {
  told : (i j : ℕ) → i < l.n → j < l.y → at l.out (l.n * j + i) ≡ levelled l.edges l.n l.edge l.mean i j;
  rest : (k : ℕ) → l.n * l.n ≤ k → at l.out k ≡ at l.fn.out k;
}
