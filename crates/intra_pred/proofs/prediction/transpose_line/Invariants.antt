use Rattle.std.proofs.Common.{◌≡◌, ℕ, ◌+◌, ◌-◌, ◌*◌, cond, nat_le, nat_lt, ◌&&◌}
use Rattle.spec_intra_prediction.specs.Neighbours.{at}
use Rattle.intra_pred.proofs.prediction.transpose_line.Given as goal

abbrev pub invariant-loop-x : goal.invariant-loop-x
invariant-loop-x g l = (q : ℕ) → at l.out q
    ≡ cond (nat_le (g.row.COUNT * l.y) q && nat_lt q (g.row.COUNT * l.y + l.x))
    (at l.turned (g.row.COUNT * (q - g.row.COUNT * l.y) + l.y))
    (at l.fn.out q)
