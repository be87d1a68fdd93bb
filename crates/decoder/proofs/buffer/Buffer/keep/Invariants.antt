-- The pictures from a place on are judged, and those before it are there.
use Rattle.std.proofs.Common.{◌≡◌, length, ◌≤◌}
use Rattle.decoder.proofs.Buffers.{Keeps}
use Rattle.decoder.proofs.buffer.Buffer.keep.Given as goal

abbrev pub invariant-loop-place : goal.invariant-loop-place
invariant-loop-place l = record {
  inside : l.place ≤ length l.fn.self.pictures;
  room : l.place ≤ length l.self.pictures;
  level : length l.self.tags ≡ length l.self.pictures;
  keeps : Keeps l.places l.fn.self l.place l.self;
  number : l.self.number ≡ l.fn.self.number;
}

abbrev pub decreases-loop-place : goal.decreases-loop-place
decreases-loop-place l = l.place
