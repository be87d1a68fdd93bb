use Rattle.std.proofs.Common.{◌≡◌, ◌<◌, ◌+◌, ◌*◌, length, arith}
use Rattle.spec_intra_prediction.specs.PlanarDc.{planar}
use Rattle.intra_pred.proofs.Lines.{one_more}
use Rattle.intra_pred.proofs.Sums.{planar_is}
use Rattle.intra_pred.proofs.planar_dc.planar_samples.Goals as goal

pub loop-x-preserved : goal.loop-x-preserved
loop-x-preserved g c =
    let is : c.mean_of.result ≡ planar c.args.log2 c.args.edge.now c.loop-x.x c.args.y =
    rw (c.mean_of.ensures, c.part_way-across.ensures.value, c.part_way-down.ensures.value)
    (planar_is c.args.log2 g.row.COUNT c.loop-x.x c.args.y c.args.edge.now c.requires.n) in
    let room : g.row.COUNT * c.args.y + c.loop-x.x < length c.loop-x.out =
    omega (arith, c.requires.out, c.loop-x.auto.out, c.loop-x-test.true) in
    one_more (g.row.COUNT * c.args.y) c.loop-x.x c.mean_of.result c.args.out.now c.loop-x.out
    (λ x. planar c.args.log2 c.args.edge.now x c.args.y) room is c.loop-x.invariant
