use Rattle.std.proofs.Common.{ℕ, ◌+◌, ◌*◌}
use Rattle.spec_intra_prediction.specs.Neighbours.{at}
use Rattle.intra_pred.proofs.Lines.{line_more, line_rest}
use Rattle.intra_pred.proofs.prediction.transpose_lines.Goals as goal

pub loop-y-preserved : goal.loop-y-preserved
loop-y-preserved g c =
    let f = λ (i j : ℕ). at c.args.turned.now (g.row.COUNT * i + j) in
    record {
      told =
          line_more g.row.COUNT c.loop-y.y c.transpose_line.new.out c.loop-y.out f c.transpose_line.ensures
          c.loop-y.invariant.told;
      rest =
          line_rest g.row.COUNT c.loop-y.y c.transpose_line.new.out c.loop-y.out c.args.out.now f c.loop-y-test.true
          c.transpose_line.ensures c.loop-y.invariant.rest;
    }
