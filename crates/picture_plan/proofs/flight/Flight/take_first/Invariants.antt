-- The pictures so far are taken out.
use Rattle.std.proofs.Common.{◌≡◌, take, drop}
use Rattle.picture_plan.proofs.flight.Flight.take_first.Given as goal

abbrev pub invariant-loop-taken : goal.invariant-loop-taken
invariant-loop-taken l = record {
  first : l.first-inside.pictures.items ≡ take l._taken l.fn.self;
  left : l.self-inside.pictures.items ≡ drop l._taken l.fn.self;
}
