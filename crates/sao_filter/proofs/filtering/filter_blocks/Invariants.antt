use Rattle.std.proofs.Common.{◌≡◌, ℕ, ◌+◌, ◌*◌, ◌<◌, cond, nat_lt}
use Rattle.spec_sample_adaptive_offset.specs.Plane.{sample_by, unit_at}
use Rattle.sao_filter.specs.Row.{at, lines_of, plane_of, samples_of, top}
use Rattle.sao_filter.proofs.filtering.filter_blocks.Given as goal

abbrev pub invariant-loop-k : goal.invariant-loop-k
invariant-loop-k l = (i j : ℕ) → i < l.row.width → j < lines_of l.row
    → at l.fn.out (l.row.width * j + i) ≡ samples_of l.row l.lines i (top l.row + j)
    → at l.out (l.row.width * j + i)
    ≡ cond (nat_lt i (l.row.size * l.k))
    (sample_by (plane_of l.row) (samples_of l.row l.lines)
    (unit_at (plane_of l.row) i (top l.row + j)).offset i (top l.row + j))
    (at l.fn.out (l.row.width * j + i))
