use Rattle.std.proofs.Common.{◌≡◌, ◌++◌, drop, length}
use Rattle.spec_made.specs.Planes.{mean_of}
use Rattle.made_pictures.proofs.planes.mean_plane.Given as goal

abbrev pub invariant-loop-k : goal.invariant-loop-k
invariant-loop-k l = (l.plane.items ++ mean_of (drop l.k l.first) (drop l.k l.second)
    ≡ mean_of l.first l.second) × (length l.plane.items ≡ l.k)
