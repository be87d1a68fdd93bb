use Rattle.std.proofs.Common.{arith}
use Rattle.scaling_factors.proofs.Sizes.{large, small}
use Rattle.scaling_factors.proofs.block.side_of.Goals as goal

pub returns-clause-some : goal.returns-clause-some
returns-clause-some c =
    let few = small c.args.log2 c.requires.greatest in
    let some = large c.args.log2 c.requires.least in
    omega arith

pub returns-clause-few : goal.returns-clause-few
returns-clause-few c = let few = small c.args.log2 c.requires.greatest in omega arith
