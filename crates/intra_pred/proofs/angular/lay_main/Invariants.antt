use Rattle.std.proofs.Common.{◌≡◌, ℕ, ◌+◌, ◌-◌, cond, nat_le, nat_lt, ◌&&◌}
use Rattle.spec_intra_prediction.specs.Neighbours.{at}
use Rattle.intra_pred.proofs.angular.lay_main.Given as goal

abbrev pub invariant-loop-k : goal.invariant-loop-k
invariant-loop-k l =
    (q : ℕ) → at l.reference q ≡ cond (nat_le l.n q && nat_lt q (l.n + l.k)) (at l.main (q - l.n)) (at l.fn.reference q)
