use Rattle.coding_quadtree.proofs.Steps.{next_step}
use Rattle.coding_quadtree.proofs.laws.unit_is_the_next_step.Goals as goal

pub returns : goal.returns
returns c = next_step
