use Rattle.std.proofs.Common.{◌≡◌, ℕ, ◌+◌, ◌*◌, ◌<◌, cond, nat_lt, ◌&&◌}
use Rattle.std.specs.Prelude.{◌==◌}
use Rattle.sao_filter.specs.Row.{at, kept_at, samples_of, top}
use Rattle.sao_filter.proofs.filtering.keep_line.Given as goal

abbrev pub invariant-loop-x : goal.invariant-loop-x
invariant-loop-x l = (i j : ℕ) → i < l.row.width
    → at l.out (l.row.width * j + i)
    ≡ cond ((j == l.line && nat_lt i l.x) && kept_at l.row i (top l.row + j))
    (samples_of l.row l.lines i (top l.row + j)) (at l.fn.out (l.row.width * j + i))
