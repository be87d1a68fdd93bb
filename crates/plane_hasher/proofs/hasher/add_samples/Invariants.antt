-- The samples so far are hashed.
use Rattle.std.proofs.Common.{◌≡◌, length}
use Rattle.plane_hasher.proofs.Adding.{Added}
use Rattle.plane_hasher.proofs.hasher.add_samples.Given as goal

abbrev pub invariant-pieces : goal.invariant-pieces
invariant-pieces l = record {
  added : Added l.depth l.fn.hash l.hash l.samples l.rest;
  room : length l.bytes ≡ 2048;
}

abbrev pub decreases-pieces : goal.decreases-pieces
decreases-pieces l = length l.rest
