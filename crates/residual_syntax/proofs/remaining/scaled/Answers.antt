use Rattle.residual_syntax.proofs.Positions.{shifted_small}
use Rattle.residual_syntax.proofs.remaining.scaled.Goals as goal

pub returns-clause-small : goal.returns-clause-small
returns-clause-small c = shifted_small c.args.n c.args.k c.requires.small c.requires.rice
