use Rattle.std.specs.Prelude.{take}
use Rattle.flight_views.specs.Layouts.{AreHalved}
use Rattle.flight_views.proofs.layouts.are_halved.Given as goal

abbrev pub invariant-loop-place : goal.invariant-loop-place
invariant-loop-place l = AreHalved (take l.place l.bases)
