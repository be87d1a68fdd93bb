use Rattle.std.proofs.Common.{◌-◌, arith}
use Rattle.deblock.proofs.Depths.{power_few}
use Rattle.deblock.proofs.thresholds.scale.Goals as goal

pub returns-clause-few : goal.returns-clause-few
returns-clause-few c = let p = power_few (c.args.depth - 8) 6 (omega arith) in omega (arith, p)
