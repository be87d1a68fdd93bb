-- Names of flight_facts that crates above take from here.
pub use Rattle.flight_waits.specs.FlightFacts.{FlightFacts, IsOfFlight, flight_in}
