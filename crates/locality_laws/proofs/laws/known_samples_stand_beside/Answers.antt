use Rattle.locality_laws.proofs.Samples.{known_agrees}
use Rattle.locality_laws.proofs.laws.known_samples_stand_beside.Goals as goal

pub returns : goal.returns
returns c = known_agrees
