use Rattle.session_laws.proofs.Standing.{closings_stand}
use Rattle.session_laws.proofs.laws.closings_stand_in_the_trail.Goals as goal

pub returns : goal.returns
returns c = closings_stand
