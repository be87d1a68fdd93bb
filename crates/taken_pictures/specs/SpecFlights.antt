-- Names of spec_flights that crates above take from here.
pub use Rattle.spec_flights.specs.Pictures.{PlannedFlight, known_decoded, pictures_before}
pub use Rattle.spec_flights.specs.Rows.{flight_rows}
unfoldable pub use Rattle.spec_flights.specs.Rows.{picture_rows}
