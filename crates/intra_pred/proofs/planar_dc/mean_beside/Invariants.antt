use Rattle.std.proofs.Common.{◌≡◌, ◌≤◌, ◌*◌}
use Rattle.spec_arithmetic.specs.Sums.{sum_below}
use Rattle.spec_intra_prediction.specs.Neighbours.{left_at, above_at}
use Rattle.intra_pred.proofs.planar_dc.mean_beside.Given as goal

abbrev pub invariant-loop-k : goal.invariant-loop-k
invariant-loop-k l = record {
  above : l.above ≡ sum_below l.k (above_at l.n l.edge);
  left : l.left ≡ sum_below l.k (left_at l.n l.edge);
  above_greatest : l.above ≤ 65535 * l.k;
  left_greatest : l.left ≤ 65535 * l.k;
}
