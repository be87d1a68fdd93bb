use Rattle.unit_trees.proofs.Steps.{next_is}
use Rattle.unit_trees.proofs.laws.units_over_edges_are_the_next_step.Goals as goal

pub returns : goal.returns
returns c = next_is
