use Rattle.std.proofs.Common.{◌≡◌, ◌≤◌, ◌<◌, ℕ, ◌+◌, ◌*◌}
use Rattle.spec_intra_prediction.specs.Neighbours.{at}
use Rattle.spec_intra_prediction.specs.Angular.{angular}
use Rattle.intra_pred.proofs.angular.angular.Given as goal

abbrev pub invariant-loop-y : goal.invariant-loop-y
invariant-loop-y l = record {
  told : (i j : ℕ) → i < l.n → j < l.y
      → at l.out (l.n * j + i)
      ≡ angular l.direction.edges l.direction.log2 l.direction.mode l.direction.depth l.main l.side i j;
  rest : (k : ℕ) → l.n * l.n ≤ k → at l.out k ≡ at l.fn.out k;
}
