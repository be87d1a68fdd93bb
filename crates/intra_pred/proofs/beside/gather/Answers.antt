use Rattle.std.proofs.Common.{◌+◌, ◌*◌, ◌≤◌, None, length, arith}
use Rattle.spec_intra_prediction.specs.Neighbours.{beside, known_beside}
use Rattle.intra_pred.proofs.Fills.{taken}
use Rattle.intra_pred.proofs.beside.gather.Goals as goal

pub returns : goal.returns
unfolding beside
returns g c =
    let room : 4 * c.args.n + 1 ≤ length c.above.offered = omega (arith, c.above.invariant.count, c.requires.n) in
    taken c.above.offered (4 * c.args.n + 1) None
    (known_beside (g.V.Border.known c.args.view.now c.args.c) c.args.n c.args.x c.args.y) room
    (λ k h. c.above.invariant.told k (omega (arith, c.above-test.false)))
