use Rattle.std.proofs.Common.{◌<◌, arith}
use Rattle.residual_syntax.proofs.Positions.{last_small}
use Rattle.residual_syntax.proofs.last_position.last_of.Goals as goal

pub returns-clause-small : goal.returns-clause-small
returns-clause-small c =
    let long : 3 < c.args.prefix = omega arith in
    rw c.power.ensures.value (last_small c.args.log2 c.args.prefix c.args.suffix c.requires.greatest c.requires.prefix
    long (c.requires.suffix long))
