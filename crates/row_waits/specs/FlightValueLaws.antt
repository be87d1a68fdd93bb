-- Names of flight_value_laws that crates above take from here.
pub use Rattle.row_trees.specs.FlightValueLaws.{IsInRange}
