-- Names of spec_flights that crates above take from here.
pub use Rattle.row_borders.specs.SpecFlights.{PlannedFlight, flight_rows}
unfoldable pub use Rattle.row_borders.specs.SpecFlights.{expected, is_sound}
