-- The parts so far have the sizes of their pictures.
use Rattle.std.proofs.Common.{◌≡◌, length}
use Rattle.taken_flights.specs.Taken.{AreSized}
use Rattle.row_jobs.proofs.parts.parts_of.Given as goal

abbrev pub invariant-loop-place : goal.invariant-loop-place
invariant-loop-place l = record {
  count : length l.parts.items ≡ l.place;
  sized : AreSized l.plans l.parts.items;
}
