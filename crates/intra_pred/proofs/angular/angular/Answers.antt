use Rattle.std.proofs.Common.{ℕ}
use Rattle.intra_pred.proofs.Lines.{line_more, line_rest}
use Rattle.spec_intra_prediction.specs.Angular.{angular}
use Rattle.intra_pred.proofs.angular.angular.Goals as goal

pub loop-y-preserved : goal.loop-y-preserved
loop-y-preserved c =
    let f = λ (i j : ℕ). angular c.args.direction.edges c.args.direction.log2 c.args.direction.mode
    c.args.direction.depth c.args.main.now c.args.side.now i j in
    record {
      told =
          line_more c.columns-n.result c.loop-y.y c.line.new.out c.loop-y.out f c.line.ensures c.loop-y.invariant.told;
      rest =
          line_rest c.columns-n.result c.loop-y.y c.line.new.out c.loop-y.out c.args.out.now f c.loop-y-test.true
          c.line.ensures c.loop-y.invariant.rest;
    }
