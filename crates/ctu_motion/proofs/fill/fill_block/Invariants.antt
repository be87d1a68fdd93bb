use Rattle.std.proofs.Common.{◌≡◌, ℕ, ◌+◌, ◌<◌, cond, nat_le, nat_lt, ◌&&◌, slice_index_or}
use Rattle.ctu_motion.specs.Held.{cell}
use Rattle.ctu_motion.proofs.fill.fill_block.Given as goal

abbrev pub invariant-loop-row : goal.invariant-loop-row
invariant-loop-row g l = (i j : ℕ) (d : g.row.T.Denot) → i < 34 → j < 17
    → slice_index_or l.cells (cell i j) d
    ≡ cond ((nat_le l.x i && nat_lt i (l.x + l.width)) && (nat_le l.y j && nat_lt j l.row)) l.value
    (slice_index_or l.fn.cells (cell i j) d)
