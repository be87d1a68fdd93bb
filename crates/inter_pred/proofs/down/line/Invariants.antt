use Rattle.std.proofs.Common.{◌≡◌, ℕ, ◌+◌, pos, ◌+ℤ◌, cond, nat_le, nat_lt, ◌&&◌}
use Rattle.inter_pred.specs.Passes.{at, down}
use Rattle.inter_pred.proofs.down.line.Given as goal

abbrev pub invariant-loop-k : goal.invariant-loop-k
invariant-loop-k g l = (q : ℕ) → pos (at l.out q)
    ≡ cond (nat_le l.from q && nat_lt q (l.from + l.k)) (pos 16896 +ℤ down g.row.TAPS g.row.Q l.middle q)
    (pos (at l.fn.out q))
