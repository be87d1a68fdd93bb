use Rattle.std.proofs.Common.{◌≡◌, ◌-◌, true, replicate}
use Rattle.cabac_writer.specs.Coding.{with_words}
use Rattle.spec_made.specs.InterRows.{bypasses}
use Rattle.made_rows.proofs.inter_rows.write_ones.Given as goal

-- the ones that are left bring what all bring
abbrev pub invariant-loop-i : goal.invariant-loop-i
invariant-loop-i l =
    with_words l.writer (bypasses (replicate (l.n - l.i) true)) ≡ with_words l.fn.writer (bypasses (replicate l.n true))
