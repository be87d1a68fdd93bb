-- Names of flight_unit_laws that crates above take from here.
pub use Rattle.flight_unit_laws.specs.Uses.{BuffersAgree}
