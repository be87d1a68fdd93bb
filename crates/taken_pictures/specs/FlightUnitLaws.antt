-- Names of flight_unit_laws that crates above take from here.
pub use Rattle.sample_lines.specs.FlightUnitLaws.{IsPlanned}
