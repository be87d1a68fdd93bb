use Rattle.residual_syntax.proofs.Positions.{power_small}
use Rattle.residual_syntax.proofs.last_position.power.Goals as goal

pub returns-clause-small : goal.returns-clause-small
returns-clause-small c = power_small c.args.n c.requires
