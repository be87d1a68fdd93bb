use Rattle.known_unit_laws.proofs.Entries.{known_step}
use Rattle.known_unit_laws.proofs.laws.units_are_read_by_those_before.Goals as goal

pub returns : goal.returns
returns c = known_step
