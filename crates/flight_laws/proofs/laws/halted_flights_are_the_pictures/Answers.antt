use Rattle.flight_laws.proofs.Calls.{where_halted}
use Rattle.flight_laws.proofs.laws.halted_flights_are_the_pictures.Goals as goal

pub returns : goal.returns
returns c = where_halted
