-- Names of spec_flights that crates above take from here.
pub use Rattle.spec_flights.specs.Pictures.{PlannedFlight, pictures_before}
unfoldable pub use Rattle.spec_flights.specs.Pictures.{folded_at}
pub use Rattle.spec_flights.specs.References.{blocks_in, collocated_by, item_blocks}
unfoldable pub use Rattle.spec_flights.specs.References.{blocks_at, collocated_at}
pub use Rattle.spec_flights.specs.References.{known_blocks, known_motion, segment_blocks}
unfoldable pub use Rattle.spec_flights.specs.References.{names_before, segment_of}
pub use Rattle.spec_flights.specs.Rows.{flight_rows, lines_in, luma_lines}
unfoldable pub use Rattle.spec_flights.specs.Rows.{is_sound, rows_in}
pub use Rattle.spec_flights.specs.Words.{carried_behind, expected_in, flight_sizes}
unfoldable pub use Rattle.spec_flights.specs.Words.{expected, values_in}
