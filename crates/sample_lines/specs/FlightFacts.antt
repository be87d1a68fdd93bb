-- Names of flight_facts that crates above take from here.
pub use Rattle.flight_facts.specs.Boards.{board_flight, flight_meaning, rule_in, rule_of, sizes_in}
unfoldable pub use Rattle.flight_facts.specs.Boards.{rule_at}
pub use Rattle.flight_facts.specs.Facts.{flight_in}
pub use Rattle.flight_facts.specs.Flights.{IsOfFlight}
pub use Rattle.flight_facts.specs.Held.{HoldsPictures, StopsByRule}
pub use Rattle.flight_facts.specs.declared.flight_facts.FlightFacts.{FlightFacts}
