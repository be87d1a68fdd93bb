use Rattle.locality_laws.proofs.References.{unit_same}
use Rattle.locality_laws.proofs.laws.units_depend_on_what_they_refer_to.Goals as goal

pub returns : goal.returns
returns c = unit_same
