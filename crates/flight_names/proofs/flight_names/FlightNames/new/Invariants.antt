use Rattle.std.proofs.Common.{◌≡◌}
use Rattle.flight_names.specs.Names.{names_at, names_to}
use Rattle.flight_names.proofs.flight_names.FlightNames.new.Given as goal

abbrev pub invariant-loop-place : goal.invariant-loop-place
invariant-loop-place l =
    (l.names.items ≡ names_to l.pictures l.bases l.place) × (l.buffer ≡ names_at l.pictures l.bases l.place)
