-- Names of flight_facts that crates above take from here.
pub use Rattle.flight_facts.specs.Boards.{board_flight, flight_meaning, flight_of}
pub use Rattle.flight_facts.specs.Facts.{flight_in}
pub use Rattle.flight_facts.specs.Flights.{IsOfFlight}
pub use Rattle.flight_facts.specs.Held.{HoldsPictures}
pub use Rattle.flight_facts.specs.declared.flight_facts.FlightFacts.{FlightFacts}
