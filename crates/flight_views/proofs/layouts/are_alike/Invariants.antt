use Rattle.std.specs.Prelude.{Decides}
use Rattle.header_types.specs.SequenceParameterSets.{IsSps}
use Rattle.flight_views.specs.Layouts.{HasSetsOf}
use Rattle.flight_views.proofs.Alike.{Each}
use Rattle.flight_views.proofs.layouts.are_alike.Given as goal

abbrev pub invariant-loop-place : goal.invariant-loop-place
invariant-loop-place l =
    Decides l.alike (Each (HasSetsOf l.first) l.plans l.place)
    × Each (λ p. IsSps p.sps) l.plans l.place
