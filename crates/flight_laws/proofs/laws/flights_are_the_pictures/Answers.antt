use Rattle.flight_laws.proofs.Calls.{where_finished}
use Rattle.flight_laws.proofs.Whole.{are_planned}
use Rattle.flight_laws.proofs.laws.flights_are_the_pictures.Goals as goal

pub returns : goal.returns
returns c = record { whole = are_planned; behind = where_finished }
