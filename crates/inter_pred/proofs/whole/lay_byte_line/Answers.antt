use Rattle.std.proofs.Common.{rules, ◌+◌, min, arith}
use Rattle.inter_pred.specs.Passes.{at}
use Rattle.inter_pred.proofs.Laying.{part_laid}
use Rattle.inter_pred.proofs.whole.lay_byte_line.Goals as goal

pub returns : goal.returns
returns c =
    part_laid c.args.to c.args.width _ _ _ (λ n. min (at c.args.window.now (c.args.from + n)) 255)
    (search rules) (search rules) (omega arith) (λ i lt. c.copy_line.ensures i (search rules))
