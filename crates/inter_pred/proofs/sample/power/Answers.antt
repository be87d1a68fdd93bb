use Rattle.std.proofs.Common.{arith}
use Rattle.std.proofs.lemmas.Int.{ints}
use Rattle.inter_pred.proofs.Products.{power_within}
use Rattle.inter_pred.proofs.sample.power.Goals as goal

pub returns-clause-high : goal.returns-clause-high
returns-clause-high c = let p = power_within c.args.shift 14 c.requires in omega (arith, ints, p)
