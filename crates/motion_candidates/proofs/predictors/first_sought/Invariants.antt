use Rattle.std.proofs.Common.{◌≡◌, drop, map}
use Rattle.motion_candidates.specs.Predictors.{sought}
use Rattle.spec_motion.specs.VectorPrediction.{first_of}
use Rattle.motion_candidates.proofs.predictors.first_sought.Given as goal

abbrev pub invariant-loop-k : goal.invariant-loop-k
invariant-loop-k l =
    first_of (map (sought l.search l.slice l.list l.target) (drop l.k l.places))
    ≡ first_of (map (sought l.search l.slice l.list l.target) l.places)
