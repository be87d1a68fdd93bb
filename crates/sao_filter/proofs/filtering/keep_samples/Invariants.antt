use Rattle.std.proofs.Common.{◌≡◌, ℕ, ◌+◌, ◌*◌, ◌<◌, cond, nat_lt, ◌&&◌}
use Rattle.sao_filter.specs.Row.{at, kept_at, samples_of, top}
use Rattle.sao_filter.proofs.filtering.keep_samples.Given as goal

abbrev pub invariant-loop-line : goal.invariant-loop-line
invariant-loop-line l = (i j : ℕ) → i < l.row.width
    → at l.out (l.row.width * j + i)
    ≡ cond (nat_lt j l.line && kept_at l.row i (top l.row + j)) (samples_of l.row l.lines i (top l.row + j))
    (at l.fn.out (l.row.width * j + i))
