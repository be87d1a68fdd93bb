use Rattle.flight_unit_laws.proofs.Stops.{none_stops, stops_there}
use Rattle.flight_unit_laws.proofs.laws.least_bad_units_stop_decoding.Goals as goal

pub returns-clause-none : goal.returns-clause-none
returns-clause-none c = none_stops

pub returns-clause-some : goal.returns-clause-some
returns-clause-some c f u some least = stops_there f some u least.0 least.1
