use Rattle.scaling_factors.proofs.Sizes.{eighth_inside}
use Rattle.scaling_factors.proofs.block.eighth.Goals as goal

pub returns-clause-few : goal.returns-clause-few
returns-clause-few c = eighth_inside c.args.log2 c.args.place c.requires.least c.requires.place
