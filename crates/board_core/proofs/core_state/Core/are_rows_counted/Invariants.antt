use Rattle.std.proofs.Common.{ℕ, ◌<◌, ◌≤◌}
use Rattle.board_core.specs.Places.{full_count, line_of}
use Rattle.board_core.specs.States.{count_of}
use Rattle.board_core.proofs.core_state.Core.are_rows_counted.Given as goal

abbrev pub invariant-loop-row : goal.invariant-loop-row
invariant-loop-row l =
    (r : ℕ) → l.rows.first ≤ r → r < l.row
    → full_count l.fn.self.plan (line_of l.rows.phase l.rows.picture r)
    ≤ count_of l.fn.self.plan l.fn.self.state (line_of l.rows.phase l.rows.picture r)
