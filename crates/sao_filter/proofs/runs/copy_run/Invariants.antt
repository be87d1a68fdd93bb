use Rattle.std.proofs.Common.{◌≡◌, ℕ, ◌+◌, ◌-◌, cond, nat_le, nat_lt, ◌&&◌}
use Rattle.sao_filter.specs.Row.{at}
use Rattle.sao_filter.proofs.runs.copy_run.Given as goal

abbrev pub invariant-loop-k : goal.invariant-loop-k
invariant-loop-k l = (q : ℕ) → at l.out q
    ≡ cond (nat_le l.run.first q && nat_lt q (l.run.first + l.k)) (at l.lines (l.run.from + (q - l.run.first)))
    (at l.fn.out q)
