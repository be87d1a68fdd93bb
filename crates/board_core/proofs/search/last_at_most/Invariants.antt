use Rattle.std.proofs.Common.{◌<◌, ◌≤◌, ◌-◌, length, slice_index}
use Rattle.board_core.proofs.search.last_at_most.Given as goal

abbrev pub invariant-loop-high : goal.invariant-loop-high
invariant-loop-high l =
    record {
      order : l.low < l.high;
      inside : l.high ≤ length l.table;
      at_most : slice_index l.table l.low ≤ l.value;
      above : l.high < length l.table → l.value < slice_index l.table l.high;
    }

abbrev pub decreases-loop-high : goal.decreases-loop-high
decreases-loop-high l = l.high - l.low
