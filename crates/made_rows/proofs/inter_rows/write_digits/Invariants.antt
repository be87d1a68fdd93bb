use Rattle.std.proofs.Common.{◌≡◌, ◌-◌}
use Rattle.spec_bits.specs.Spelling.{u_bits}
use Rattle.cabac_writer.specs.Coding.{with_words}
use Rattle.spec_made.specs.InterRows.{bypasses}
use Rattle.made_rows.proofs.inter_rows.write_digits.Given as goal

-- the digits that are left bring what all bring
abbrev pub invariant-loop-i : goal.invariant-loop-i
invariant-loop-i l =
    with_words l.writer (bypasses (u_bits (l.n - l.i) l.value)) ≡ with_words l.fn.writer (bypasses (u_bits l.n l.value))
