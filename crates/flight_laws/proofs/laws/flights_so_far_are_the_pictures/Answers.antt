use Rattle.flight_laws.proofs.Calls.{so_far}
use Rattle.flight_laws.proofs.laws.flights_so_far_are_the_pictures.Goals as goal

pub returns : goal.returns
returns c = so_far
