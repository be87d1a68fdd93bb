use Rattle.std.proofs.Common.{◌≡◌, ◌<◌, ℕ, length}
use Rattle.spec_intra_prediction.specs.Neighbours.{at}
use Rattle.spec_intra_prediction.specs.Smoothing.{smoothed_at}
use Rattle.intra_pred.proofs.smoothing.smoothen.Given as goal

abbrev pub invariant-loop-k : goal.invariant-loop-k
invariant-loop-k l = record {
  count : length l.smooth ≡ 129;
  told : (q : ℕ) → q < l.k → at l.smooth q ≡ smoothed_at l.edge q;
}
