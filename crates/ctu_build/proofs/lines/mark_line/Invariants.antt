use Rattle.std.proofs.Common.{◌≡◌, ℕ, ◌+◌, cond, nat_le, nat_lt, ◌&&◌, slice_index_or, true, false}
use Rattle.ctu_build.proofs.lines.mark_line.Given as goal

abbrev pub invariant-loop-k : goal.invariant-loop-k
invariant-loop-k g l = (q : ℕ) → slice_index_or l.known q false
    ≡ cond (nat_le l.first q && nat_lt q (l.first + l.k)) true (slice_index_or l.fn.known q false)
