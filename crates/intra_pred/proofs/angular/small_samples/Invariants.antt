use Rattle.std.proofs.Common.{◌≡◌, ℕ, ◌+◌, ◌-◌, ◌/◌, ◌%◌, cond, nat_le, nat_lt, ◌&&◌}
use Rattle.spec_intra_prediction.specs.Neighbours.{at}
use Rattle.spec_intra_prediction.specs.Angular.{between}
use Rattle.intra_pred.proofs.angular.small_samples.Given as goal

abbrev pub invariant-loop-x : goal.invariant-loop-x
invariant-loop-x g l = (q : ℕ) → at l.out q
    ≡ cond (nat_le l.first q && nat_lt q (l.first + l.x))
    (between (l.place % 32) (at l.reference (l.place / 32 + (q - l.first) + 1))
    (at l.reference (l.place / 32 + (q - l.first) + 2)))
    (at l.fn.out q)
