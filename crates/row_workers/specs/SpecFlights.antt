-- Names of spec_flights that crates above take from here.
pub use Rattle.built_rows.specs.SpecFlights.{PlannedFlight, flight_rows, known_decoded, pictures_before}
unfoldable pub use Rattle.built_rows.specs.SpecFlights.{staying}
