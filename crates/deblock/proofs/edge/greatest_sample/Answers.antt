use Rattle.std.proofs.Common.{arith}
use Rattle.deblock.proofs.Depths.{power_few}
use Rattle.deblock.proofs.edge.greatest_sample.Goals as goal

pub returns-clause-few : goal.returns-clause-few
returns-clause-few c = let p = power_few c.args.depth 14 c.requires.greatest in omega (arith, p)
