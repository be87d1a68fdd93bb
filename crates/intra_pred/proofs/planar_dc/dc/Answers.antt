use Rattle.std.proofs.Common.{ℕ}
use Rattle.intra_pred.proofs.Lines.{line_more, line_rest}
use Rattle.spec_intra_prediction.specs.PlanarDc.{levelled}
use Rattle.intra_pred.proofs.planar_dc.dc.Goals as goal

pub loop-y-preserved : goal.loop-y-preserved
loop-y-preserved c =
    let f = λ (i j : ℕ). levelled c.args.edges c.columns-n.result c.args.edge.now c.mean_beside-mean.result i j in
    record {
      told =
          line_more c.columns-n.result c.loop-y.y c.level_line.new.out c.loop-y.out f c.level_line.ensures
          c.loop-y.invariant.told;
      rest =
          line_rest c.columns-n.result c.loop-y.y c.level_line.new.out c.loop-y.out c.args.out.now f c.loop-y-test.true
          c.level_line.ensures c.loop-y.invariant.rest;
    }
