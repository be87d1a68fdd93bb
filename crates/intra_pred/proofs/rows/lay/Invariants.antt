use Rattle.std.proofs.Common.{◌≡◌, ℕ, ◌+◌, cond, nat_le, nat_lt, ◌&&◌}
use Rattle.spec_intra_prediction.specs.Neighbours.{at}
use Rattle.intra_pred.proofs.rows.lay.Given as goal

abbrev pub invariant-loop-k : goal.invariant-loop-k
invariant-loop-k l = (q : ℕ) → at l.out q ≡ cond (nat_le l.first q && nat_lt q (l.first + l.k)) l.value (at l.fn.out q)
