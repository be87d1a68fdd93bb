use Rattle.std.proofs.Common.{rules}
use Rattle.spec_reconstruction.specs.Factors.{scaling_factor, scaling_factors}
use Rattle.scaling_factors.proofs.table.flat_factors.Goals as goal

pub returns : goal.returns
unfolding scaling_factors scaling_factor
returns c = search rules
