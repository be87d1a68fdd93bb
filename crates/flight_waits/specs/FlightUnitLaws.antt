-- Names of flight_unit_laws that crates above take from here.
pub use Rattle.flight_facts.specs.FlightUnitLaws.{HasHalves}
pub use Rattle.flight_facts.specs.FlightUnitLawsPlanned.{IsPlanned}
