use Rattle.flight_names.proofs.Named.{named}
use Rattle.flight_names.proofs.laws.names_are_of_the_flight.Goals as goal

pub returns : goal.returns
returns c = named
