-- Names of spec_flights that crates above take from here.
pub use Rattle.flight_value_laws.specs.SpecFlights.{PlannedFlight}
unfoldable pub use Rattle.flight_value_laws.specs.SpecFlights.{broken_at, buffer_before, buffer_behind}
pub use Rattle.flight_value_laws.specs.SpecFlights.{flight_rows, known_decoded, pictures_before, unit_number}
unfoldable pub use Rattle.flight_value_laws.specs.SpecFlights.{staying}
