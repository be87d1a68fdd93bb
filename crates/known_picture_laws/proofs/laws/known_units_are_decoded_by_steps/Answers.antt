use Rattle.known_picture_laws.proofs.Steps.{decoded_by_step}
use Rattle.known_picture_laws.proofs.laws.known_units_are_decoded_by_steps.Goals as goal

pub returns : goal.returns
returns c = decoded_by_step
