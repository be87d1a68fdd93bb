-- The pictures from a place on are judged, and those before it are there.
use Rattle.std.proofs.Common.{length, ◌≤◌}
use Rattle.row_jobs.proofs.Keeping.{Keeps}
use Rattle.row_jobs.proofs.buffer.keep.Given as goal

abbrev pub invariant-loop-place : goal.invariant-loop-place
invariant-loop-place l = record {
  inside : l.place ≤ length l.fn.buffer;
  room : l.place ≤ length l.buffer;
  keeps : Keeps l.places l.fn.buffer l.place l.buffer;
}

abbrev pub decreases-loop-place : goal.decreases-loop-place
decreases-loop-place l = l.place
