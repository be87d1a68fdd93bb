-- Names of spec_flights that crates above take from here.
pub use Rattle.known_picture_laws.specs.SpecFlights.{PlannedFlight, blocks_in, carried_behind}
unfoldable pub use Rattle.known_picture_laws.specs.SpecFlights.{blocks_at, expected}
pub use Rattle.known_picture_laws.specs.SpecFlights.{expected_in, flight_rows, flight_sizes}
unfoldable pub use Rattle.known_picture_laws.specs.SpecFlights.{folded_at, is_sound}
pub use Rattle.known_picture_laws.specs.SpecFlights.{item_blocks, known_blocks, known_folded, modes_of}
unfoldable pub use Rattle.known_picture_laws.specs.SpecFlights.{modes_at}
pub use Rattle.known_picture_laws.specs.SpecFlights.{pictures_before, segment_blocks}
unfoldable pub use Rattle.known_picture_laws.specs.SpecFlights.{names_before, phase_samples}
unfoldable pub use Rattle.known_picture_laws.specs.SpecFlights.{values_in}
