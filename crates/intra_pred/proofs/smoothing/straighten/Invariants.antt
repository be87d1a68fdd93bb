use Rattle.std.proofs.Common.{◌≡◌, ◌<◌, ℕ, length}
use Rattle.spec_intra_prediction.specs.Neighbours.{at}
use Rattle.spec_intra_prediction.specs.Smoothing.{straight_at}
use Rattle.intra_pred.proofs.smoothing.straighten.Given as goal

abbrev pub invariant-left : goal.invariant-left
invariant-left l = record {
  count : length l.smooth ≡ 129;
  told : (q : ℕ) → q < l.k → at l.smooth q ≡ straight_at l.edge q;
}

abbrev pub invariant-above : goal.invariant-above
invariant-above l = record {
  count : length l.smooth ≡ 129;
  told : (q : ℕ) → q < l.k → at l.smooth q ≡ straight_at l.edge q;
}
