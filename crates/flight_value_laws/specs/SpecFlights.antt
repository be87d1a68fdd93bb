-- Names of spec_flights that crates above take from here.
pub use Rattle.known_picture_laws.specs.SpecFlights.{PlannedFlight, broken_by}
unfoldable pub use Rattle.known_picture_laws.specs.SpecFlights.{broken_at, buffer_before}
pub use Rattle.known_picture_laws.specs.SpecFlights.{carried_behind, expected_in}
unfoldable pub use Rattle.known_picture_laws.specs.SpecFlights.{buffer_behind, expected}
pub use Rattle.known_picture_laws.specs.SpecFlights.{flight_rows, flight_sizes, given_at, known_decoded}
unfoldable pub use Rattle.known_picture_laws.specs.SpecFlights.{folded_at}
pub use Rattle.known_picture_laws.specs.SpecFlights.{known_folded, pictures_before, unit_number}
unfoldable pub use Rattle.known_picture_laws.specs.SpecFlights.{modes_at, staying}
unfoldable pub use Rattle.known_picture_laws.specs.SpecFlights.{values_in}
