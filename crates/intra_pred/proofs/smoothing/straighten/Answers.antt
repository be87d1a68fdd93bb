use Rattle.std.proofs.Common.{◌≤◌, length, arith}
use Rattle.spec_intra_prediction.specs.Smoothing.{straightened, straight_at}
use Rattle.intra_pred.proofs.Fills.{taken}
use Rattle.intra_pred.proofs.smoothing.straighten.Goals as goal

pub returns : goal.returns
unfolding straightened
returns c =
    let room : 129 ≤ length c.above.smooth = omega (arith, c.above.invariant.count) in
    rw c.requires (taken c.above.smooth 129 0 (straight_at c.args.edge.now) room
    (λ k h. c.above.invariant.told k (omega (arith, c.above-test.false))))
