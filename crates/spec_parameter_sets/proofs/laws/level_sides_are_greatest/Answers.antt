use Rattle.spec_parameter_sets.proofs.GreatestSides.{sides_are_greatest}
use Rattle.spec_parameter_sets.proofs.laws.level_sides_are_greatest.Goals as goal

pub returns : goal.returns
returns c = sides_are_greatest
