-- Names of flight_value_laws that crates above take from here.
pub use Rattle.flight_facts.specs.FlightValueLaws.{IsInRange}
