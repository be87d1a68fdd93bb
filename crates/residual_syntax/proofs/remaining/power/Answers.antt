use Rattle.residual_syntax.proofs.Positions.{wide_power_small}
use Rattle.residual_syntax.proofs.remaining.power.Goals as goal

pub returns-clause-small : goal.returns-clause-small
returns-clause-small c = wide_power_small c.args.n c.requires
