-- Names of spec_flights that crates above take from here.
pub use Rattle.known_picture_laws.specs.SpecFlights.{PlannedFlight, blocks_in}
unfoldable pub use Rattle.known_picture_laws.specs.SpecFlights.{bad_units, blocks_at, broken_at}
pub use Rattle.known_picture_laws.specs.SpecFlights.{broken_by, broken_units}
unfoldable pub use Rattle.known_picture_laws.specs.SpecFlights.{buffer_before, buffer_behind}
pub use Rattle.known_picture_laws.specs.SpecFlights.{expected_in, flight_rows, flight_sizes}
unfoldable pub use Rattle.known_picture_laws.specs.SpecFlights.{collocated_at, expected}
pub use Rattle.known_picture_laws.specs.SpecFlights.{folded_in, given_at}
unfoldable pub use Rattle.known_picture_laws.specs.SpecFlights.{folded_at, horizontal_samples, is_sound}
pub use Rattle.known_picture_laws.specs.SpecFlights.{is_sound_in, is_sound_of, known_decoded, known_folded}
pub use Rattle.known_picture_laws.specs.SpecFlights.{luma_lines, modes_of}
unfoldable pub use Rattle.known_picture_laws.specs.SpecFlights.{modes_at, names_before, names_behind}
pub use Rattle.known_picture_laws.specs.SpecFlights.{picture_named}
unfoldable pub use Rattle.known_picture_laws.specs.SpecFlights.{offset_samples, phase_samples, picture_rows}
pub use Rattle.known_picture_laws.specs.SpecFlights.{pictures_before, rows_of, unit_number}
unfoldable pub use Rattle.known_picture_laws.specs.SpecFlights.{rows_in, staying}
unfoldable pub use Rattle.known_picture_laws.specs.SpecFlights.{values_in, vertical_samples}
