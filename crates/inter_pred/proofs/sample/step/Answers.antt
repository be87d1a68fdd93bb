use Rattle.std.proofs.Common.{◌-◌, arith}
use Rattle.std.proofs.lemmas.Int.{ints}
use Rattle.inter_pred.proofs.Products.{power_within}
use Rattle.inter_pred.proofs.sample.step.Goals as goal

pub returns-clause-high : goal.returns-clause-high
returns-clause-high c = let p = power_within (c.args.depth - 8) 6 (omega (arith, c.requires)) in omega (arith, ints, p)
