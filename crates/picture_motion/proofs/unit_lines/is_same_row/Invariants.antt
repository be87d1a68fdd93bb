use Rattle.std.proofs.Common.{◌≡◌, ℕ, ◌+◌, ◌<◌}
use Rattle.ctu_motion.specs.Held.{held}
use Rattle.picture_motion.proofs.unit_lines.is_same_row.Given as goal

abbrev pub invariant-loop-column : goal.invariant-loop-column
invariant-loop-column l =
    (i : ℕ) → i < l.column → held l.motion (i + 1) (l.other + 1) ≡ held l.motion (i + 1) (l.row + 1)
