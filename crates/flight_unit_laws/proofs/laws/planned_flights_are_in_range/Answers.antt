use Rattle.flight_unit_laws.proofs.Range.{is_flight, tells_motion}
use Rattle.flight_unit_laws.proofs.laws.planned_flights_are_in_range.Goals as goal

pub returns-clause-flight : goal.returns-clause-flight
returns-clause-flight c = is_flight

pub returns-clause-motion : goal.returns-clause-motion
returns-clause-motion c = tells_motion
