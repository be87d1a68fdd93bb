use Rattle.flight_laws.proofs.OneSet.{are_flights}
use Rattle.flight_laws.proofs.laws.flights_are_of_one_set.Goals as goal

pub returns : goal.returns
returns c = are_flights
