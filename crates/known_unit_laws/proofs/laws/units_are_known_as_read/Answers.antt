use Rattle.known_unit_laws.proofs.Reading.{as_in_order}
use Rattle.known_unit_laws.proofs.laws.units_are_known_as_read.Goals as goal

pub returns : goal.returns
returns c = as_in_order
