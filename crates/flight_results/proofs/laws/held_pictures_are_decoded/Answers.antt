use Rattle.flight_results.proofs.Held.{held_decoded}
use Rattle.flight_results.proofs.laws.held_pictures_are_decoded.Goals as goal

pub returns : goal.returns
returns c = held_decoded
