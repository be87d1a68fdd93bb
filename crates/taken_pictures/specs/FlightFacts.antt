-- Names of flight_facts that crates above take from here.
pub use Rattle.sample_lines.specs.FlightFacts.{FlightFacts, HoldsPictures, IsOfFlight, StopsByRule, board_flight}
pub use Rattle.sample_lines.specs.FlightFacts.{flight_in, flight_meaning, sizes_in}
