use Rattle.std.proofs.Common.{◌≡◌, ◌≤◌, length, take}
use Rattle.spec_flights.specs.References.{staying}
use Rattle.flight_names.proofs.buffer_names.BufferNames.behind.Given as goal

abbrev pub invariant-loop-place : goal.invariant-loop-place
invariant-loop-place l =
    (l.names.items ≡ staying l.kept 0 (take l.place l.self)) × (l.place ≤ length l.self)
