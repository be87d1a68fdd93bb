use Rattle.locality_laws.proofs.Motion.{known_of_unit_agrees}
use Rattle.locality_laws.proofs.laws.known_motion_stands_beside.Goals as goal

pub returns : goal.returns
returns c = known_of_unit_agrees
