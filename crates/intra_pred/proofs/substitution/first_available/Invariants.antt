use Rattle.std.proofs.Common.{◌≡◌, drop}
use Rattle.spec_intra_prediction.specs.Substitution.{first_available}
use Rattle.intra_pred.proofs.substitution.first_available.Given as goal

abbrev pub invariant-loop-k : goal.invariant-loop-k
invariant-loop-k l = first_available l.otherwise (drop l.k l.neighbours) ≡ first_available l.otherwise l.neighbours
