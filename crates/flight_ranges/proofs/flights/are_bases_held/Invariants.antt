-- The pictures so far have motion that may be.
use Rattle.std.proofs.Common.{All, take}
use Rattle.flight_ranges.specs.Buffers.{IsBaseHeld}
use Rattle.flight_ranges.proofs.flights.are_bases_held.Given as goal

abbrev pub invariant-loop-place : goal.invariant-loop-place
invariant-loop-place l = All IsBaseHeld (take l.place l.bases)
