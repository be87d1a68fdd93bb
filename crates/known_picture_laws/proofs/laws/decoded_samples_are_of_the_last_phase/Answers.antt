use Rattle.known_picture_laws.proofs.Phases.{last_phase}
use Rattle.known_picture_laws.proofs.laws.decoded_samples_are_of_the_last_phase.Goals as goal

pub returns : goal.returns
returns c = last_phase
