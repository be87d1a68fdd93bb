use Rattle.std.proofs.Common.{◌≡◌, ◌-◌, take, drop, ◌++◌, ◌^◌}
use Rattle.spec_intra_prediction.specs.Substitution.{first_available, following}
use Rattle.intra_pred.proofs.substitution.substitute.Given as goal

abbrev pub invariant-loop-k : goal.invariant-loop-k
invariant-loop-k l = take l.k l.samples ++ following l.former (drop l.k l.neighbours)
    ≡ following (first_available (2 ^ (l.depth - 1)) l.neighbours) l.neighbours
