-- Names of flight_value_laws that crates above take from here.
pub use Rattle.row_above_laws.specs.FlightValueLaws.{AreUsesSound, IsInRange, IsTopEdge}
