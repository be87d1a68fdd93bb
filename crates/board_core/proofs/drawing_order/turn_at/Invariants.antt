use Rattle.std.proofs.Common.{◌+◌, ◌<◌, ◌≤◌, ◌-◌}
use Rattle.board_core.specs.Places.{lines_before}
use Rattle.board_core.proofs.drawing_order.turn_at.Given as goal

abbrev pub invariant-loop-high : goal.invariant-loop-high
invariant-loop-high l =
    record {
      order : l.low < l.high;
      last : l.high ≤ l.rows + 12;
      from : lines_before l.rows l.low 0 ≤ l.within;
      below : l.within < lines_before l.rows l.high 0;
    }

abbrev pub decreases-loop-high : goal.decreases-loop-high
decreases-loop-high l = l.high - l.low
