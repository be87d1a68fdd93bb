use Rattle.std.proofs.Common.{◌≡◌, ℕ, ◌+◌, ◌-◌, cond, nat_le, nat_lt, ◌&&◌}
use Rattle.inter_pred.specs.Passes.{at}
use Rattle.inter_pred.proofs.whole.copy_line.Given as goal

abbrev pub invariant-loop-k : goal.invariant-loop-k
invariant-loop-k l = (q : ℕ) → at l.out q
    ≡ cond (nat_le l.to q && nat_lt q (l.to + l.k)) (16896 + at l.window (l.from + (q - l.to))) (at l.fn.out q)
