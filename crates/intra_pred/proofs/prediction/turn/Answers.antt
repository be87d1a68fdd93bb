use Rattle.std.proofs.Common.{◌+◌, ◌-◌, ◌*◌, ◌≤◌, length, arith}
use Rattle.spec_intra_prediction.specs.Neighbours.{at, left_side}
use Rattle.intra_pred.proofs.Fills.{taken}
use Rattle.intra_pred.proofs.prediction.turn.Goals as goal

pub returns : goal.returns
unfolding left_side
returns c =
    let room : 2 * c.args.n + 1 ≤ length c.loop-k.left = omega (arith, c.loop-k.invariant.count, c.requires.n) in
    taken c.loop-k.left (2 * c.args.n + 1) 0 (λ k. at c.args.edge.now (2 * c.args.n - k)) room
    (λ k h. c.loop-k.invariant.told k (omega (arith, c.loop-k-test.false)))
