use Rattle.std.proofs.Common.{ℕ, ◌≡◌, ◌<◌, ◌≤◌, ◌*◌, take}
use Rattle.flight_plan.specs.Flight.{IsTreeUnitOf, units_of}
use Rattle.flight_plan.proofs.plan.FlightPlan.is_tree_unit.Given as goal

abbrev pub invariant-loop-picture : goal.invariant-loop-picture
invariant-loop-picture l =
    record {
      first : l.first ≡ units_of (take l.picture-index l.picture-items);
      few : l.first ≤ 263680 * l.picture-index;
      none : (k : ℕ) → k < l.picture-index → ¬ IsTreeUnitOf l.picture-items l.unit k;
    }
