use Rattle.taken_pictures.specs.FlightFacts.{flight_in}
use Rattle.taken_flights.proofs.Broken.{stops_inside}
use Rattle.taken_flights.proofs.laws.decoding_stops_where_taking_stops.Goals as goal

pub returns : goal.returns
returns c = λ facts s words picture is holds broken.
    stops_inside (flight_in facts) is.planned words picture holds broken
