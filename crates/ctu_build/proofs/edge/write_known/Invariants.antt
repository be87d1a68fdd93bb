use Rattle.std.proofs.Common.{◌≡◌, ◌++◌, take, drop}
use Rattle.ctu_build.specs.Held.{held}
use Rattle.spec_intra_prediction.specs.Neighbours.{beside}
use Rattle.spec_intra_prediction.specs.Substitution.{following}
use Rattle.ctu_build.proofs.edge.write_known.Given as goal

abbrev pub invariant-left : goal.invariant-left
invariant-left l =
    take l.k l.edge
    ++ following l.former (drop l.k (beside (held l.samples l.place.c) l.n l.place.x l.place.y))
    ≡ following l.first (beside (held l.samples l.place.c) l.n l.place.x l.place.y)

abbrev pub invariant-above : goal.invariant-above
invariant-above l =
    take l.k l.edge
    ++ following l.former (drop l.k (beside (held l.samples l.place.c) l.n l.place.x l.place.y))
    ≡ following l.first (beside (held l.samples l.place.c) l.n l.place.x l.place.y)
