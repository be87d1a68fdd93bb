-- Names of spec_flights that crates above take from here.
pub use Rattle.spec_flights.specs.Pictures.{PlannedFlight, known_decoded, pictures_before}
unfoldable pub use Rattle.spec_flights.specs.References.{staying}
pub use Rattle.spec_flights.specs.Rows.{flight_rows}
