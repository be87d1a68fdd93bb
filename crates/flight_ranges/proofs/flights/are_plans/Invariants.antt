-- The pictures so far are in range.
use Rattle.std.proofs.Common.{All, take}
use Rattle.plan_laws.specs.Plans.{IsPlan}
use Rattle.flight_ranges.proofs.flights.are_plans.Given as goal

abbrev pub invariant-loop-place : goal.invariant-loop-place
invariant-loop-place l = All IsPlan (take l.place l.plans)
