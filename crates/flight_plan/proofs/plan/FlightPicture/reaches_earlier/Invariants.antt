use Rattle.std.proofs.Common.{◌<◌, All, List, slice_index_or, ℕ}
use Rattle.flight_plan.specs.declared.row_range.RowRange.{RowRange}
use Rattle.flight_plan.specs.Flight.{IsEarlier}
use Rattle.flight_plan.proofs.plan.FlightPicture.reaches_earlier.Given as goal

abbrev pub invariant-loop-ranges : goal.invariant-loop-ranges
invariant-loop-ranges l = (k : ℕ) (d : List RowRange) → k < l.ranges-index
    → All (λ range. IsEarlier l.count range.picture) (slice_index_or l.ranges-items k d)
