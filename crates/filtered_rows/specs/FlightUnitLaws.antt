-- Names of flight_unit_laws that crates above take from here.
pub use Rattle.flight_waits.specs.FlightUnitLaws.{IsPlanned}
