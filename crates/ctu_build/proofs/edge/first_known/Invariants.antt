use Rattle.std.proofs.Common.{◌≡◌, drop}
use Rattle.ctu_build.specs.Held.{held}
use Rattle.spec_intra_prediction.specs.Neighbours.{beside}
use Rattle.spec_intra_prediction.specs.Substitution.{first_available}
use Rattle.ctu_build.proofs.edge.first_known.Given as goal

abbrev pub invariant-loop-k : goal.invariant-loop-k
invariant-loop-k l = first_available l.otherwise (drop l.k (beside (held l.samples l.place.c) l.n l.place.x l.place.y))
    ≡ first_available l.otherwise (beside (held l.samples l.place.c) l.n l.place.x l.place.y)
