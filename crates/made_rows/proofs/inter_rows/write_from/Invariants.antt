use Rattle.std.proofs.Common.{◌≡◌, ◌+◌, ◌-◌}
use Rattle.cabac_writer.specs.Coding.{with_words}
use Rattle.spec_made.specs.InterRows.{words_from}
use Rattle.made_rows.proofs.inter_rows.write_from.Given as goal

-- the units that are left bring what all bring
abbrev pub invariant-loop-k : goal.invariant-loop-k
invariant-loop-k l =
    with_words l.writer (words_from l.motion l.units (l.first + l.k) (l.n - l.k))
    ≡ with_words l.fn.writer (words_from l.motion l.units l.first l.n)
