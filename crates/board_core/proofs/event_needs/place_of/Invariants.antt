use Rattle.std.proofs.Common.{◌≡◌, ◌+◌, take}
use Rattle.flight_plan.specs.Flight.{units_of}
use Rattle.board_core.proofs.event_needs.place_of.Given as goal

abbrev pub invariant-loop-picture : goal.invariant-loop-picture
invariant-loop-picture l = units_of (take l.picture l.fn.plan.pictures) + l.within ≡ l.unit
