use Rattle.std.proofs.Common.{ℕ, ◌<◌, slice_index_or}
use Rattle.flight_plan.specs.declared.row_range.RowRange.{RowRange}
use Rattle.board_core.specs.Needs.{range_needs}
use Rattle.board_core.specs.States.{AreCounted}
use Rattle.board_core.proofs.core_state.Core.are_ranges_counted.Given as goal

abbrev pub invariant-loop-range : goal.invariant-loop-range
invariant-loop-range l =
    (k : ℕ) (d : RowRange) → k < l.range-index
    → AreCounted l.fn.self.plan l.fn.self.state (range_needs l.fn.self.plan (slice_index_or l.ranges k d))
