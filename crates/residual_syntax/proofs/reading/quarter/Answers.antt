use Rattle.residual_syntax.proofs.Positions.{quarter_inside}
use Rattle.residual_syntax.proofs.reading.quarter.Goals as goal

pub returns-clause-small : goal.returns-clause-small
returns-clause-small c = quarter_inside c.args.log2 c.args.x c.requires.least c.requires.inside
