-- Names of flight_facts that crates above take from here.
pub use Rattle.flight_facts.specs.Boards.{as_base, flight_of, sizes_in}
pub use Rattle.flight_facts.specs.Facts.{flight_in}
pub use Rattle.flight_facts.specs.Flights.{IsOfFlight}
pub use Rattle.flight_facts.specs.declared.flight_facts.FlightFacts.{FlightFacts}
