use Rattle.std.proofs.Common.{ℕ}
use Rattle.intra_pred.proofs.Lines.{line_more, line_rest}
use Rattle.spec_intra_prediction.specs.PlanarDc.{planar}
use Rattle.intra_pred.proofs.planar_dc.planar.Goals as goal

pub loop-y-preserved : goal.loop-y-preserved
loop-y-preserved c =
    let wrote = rw (← c.columns-n.ensures.value) at c.planar_line.ensures in
    let f = λ (i j : ℕ). planar c.args.log2 c.args.edge.now i j in
    record {
      told =
          line_more c.columns-n.result c.loop-y.y c.planar_line.new.out c.loop-y.out f wrote
          c.loop-y.invariant.told;
      rest =
          line_rest c.columns-n.result c.loop-y.y c.planar_line.new.out c.loop-y.out c.args.out.now f c.loop-y-test.true
          wrote c.loop-y.invariant.rest;
    }
