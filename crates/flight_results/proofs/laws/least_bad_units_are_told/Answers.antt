use Rattle.flight_results.proofs.Flights.{least_told}
use Rattle.flight_facts.proofs.FlightUnitLaws.{none_stops, stops_there}
use Rattle.flight_results.proofs.laws.least_bad_units_are_told.Goals as goal

pub returns : goal.returns
returns c = λ f pictures fault u d segments least.
    least_told f pictures fault u d none_stops (λ g v some is. stops_there g some v is.0 is.1) segments least
