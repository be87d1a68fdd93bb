-- The segments so far are in range.
use Rattle.std.proofs.Common.{◌≡◌, ℕ, ◌<◌, Some, slice_get}
use Rattle.plan_types.specs.declared.segment_plan.SegmentPlan.{SegmentPlan}
use Rattle.flight_ranges.specs.Segments.{IsInPlace}
use Rattle.flight_ranges.proofs.plans.is_plan.Given as goal

abbrev pub invariant-loop-place : goal.invariant-loop-place
invariant-loop-place l =
    (k : ℕ) (s : SegmentPlan) → k < l.place → slice_get l.plan.segments k ≡ Some s → IsInPlace l.plan k s
