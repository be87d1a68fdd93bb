use Rattle.flight_value_laws.proofs.Values.{decoded_held}
use Rattle.flight_value_laws.proofs.laws.decoded_motion_fits.Goals as goal

pub returns : goal.returns
returns c buffer p plan held = decoded_held p buffer plan held
