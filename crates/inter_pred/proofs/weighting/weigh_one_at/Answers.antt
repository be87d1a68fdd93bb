use Rattle.std.proofs.Common.{arith}
use Rattle.spec_inter_prediction.specs.Weighting.{IsWeights}
use Rattle.inter_pred.proofs.weighting.weigh_one_at.Goals as goal

pub lines-requires-in-Explicit-clause-log2_wd : goal.lines-requires-in-Explicit-clause-log2_wd
lines-requires-in-Explicit-clause-log2_wd c =
    let w : IsWeights c.in-Explicit.weights = rw c.in-Explicit.is at c.requires.weights in
    omega (arith, w.denominator, c.from.ensures, c.requires.depth)
