use Rattle.std.proofs.Common.{◌+◌}
use Rattle.deblock.proofs.Abreast.{line_is, line_small}
use Rattle.deblock.proofs.columns.read_line.Goals as goal

pub returns-clause-value : goal.returns-clause-value
returns-clause-value c =
    line_is c.args.w.now c.args.samples.now c.load.result c.args.a (c.args.b + c.args.n) _ c.load.ensures.value
    c.start_of_line.ensures.value

pub returns-clause-small : goal.returns-clause-small
returns-clause-small c = λ greatest all. line_small c.args.samples.now c.load.result _ greatest c.load.ensures.value all
