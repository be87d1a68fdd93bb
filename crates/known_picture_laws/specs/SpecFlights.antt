-- Names of spec_flights that crates above take from here.
unfoldable pub use Rattle.spec_flights.specs.Phases.{horizontal_samples, offset_samples, phase_samples}
unfoldable pub use Rattle.spec_flights.specs.Phases.{vertical_samples}
pub use Rattle.spec_flights.specs.Pictures.{PlannedFlight, folded_in}
unfoldable pub use Rattle.spec_flights.specs.Pictures.{buffer_before, buffer_behind, folded_at}
pub use Rattle.spec_flights.specs.Pictures.{known_decoded, known_folded, pictures_before}
pub use Rattle.spec_flights.specs.References.{block_by, block_from, blocks_by, blocks_in}
unfoldable pub use Rattle.spec_flights.specs.References.{blocks_at, collocated_at}
pub use Rattle.spec_flights.specs.References.{collocated_by, given_at, item_blocks, known_blocks, known_motion, named}
pub use Rattle.spec_flights.specs.References.{picture_named, segment_blocks}
unfoldable pub use Rattle.spec_flights.specs.References.{names_before, names_behind, segment_of}
unfoldable pub use Rattle.spec_flights.specs.References.{staying}
pub use Rattle.spec_flights.specs.Rows.{broken_by, broken_units, flight_motion}
unfoldable pub use Rattle.spec_flights.specs.Rows.{are_rows_known, bad_units, broken_at}
pub use Rattle.spec_flights.specs.Rows.{flight_rows, is_sound_in, is_sound_of, lines_in}
unfoldable pub use Rattle.spec_flights.specs.Rows.{is_row_known, is_sound}
pub use Rattle.spec_flights.specs.Rows.{luma_lines, rows_of, unit_number}
unfoldable pub use Rattle.spec_flights.specs.Rows.{picture_rows, rows_in}
pub use Rattle.spec_flights.specs.SpecDecoder.{BufferPicture, is_among, kept_as, pictures_in}
unfoldable pub use Rattle.spec_flights.specs.SpecDecoder.{kept_from}
pub use Rattle.spec_flights.specs.Words.{carried_behind, expected_in, flight_sizes, modes_of}
unfoldable pub use Rattle.spec_flights.specs.Words.{expected, modes_at}
pub use Rattle.spec_flights.specs.Words.{no_vectors, segment_number}
unfoldable pub use Rattle.spec_flights.specs.Words.{values_in}
