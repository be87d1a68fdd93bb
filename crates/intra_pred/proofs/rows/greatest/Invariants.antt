use Rattle.std.proofs.Common.{◌≤◌, ◌<◌, ℕ}
use Rattle.spec_intra_prediction.specs.Neighbours.{at}
use Rattle.intra_pred.proofs.rows.greatest.Given as goal

abbrev pub invariant-loop-k : goal.invariant-loop-k
invariant-loop-k l = ((k : ℕ) → k < l.k → at l.samples k ≤ l.greatest)
    × ((bound : ℕ) → ((k : ℕ) → k < l.k → at l.samples k ≤ bound) → l.greatest ≤ bound)
