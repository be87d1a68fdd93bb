use Rattle.unit_tree_laws.proofs.Units.{steps_same}
use Rattle.unit_tree_laws.proofs.laws.units_depend_on_those_beside_them.Goals as goal

pub returns : goal.returns
returns c = steps_same
