-- Names of spec_slice_data that crates above take from here.
pub use Rattle.known_unit_laws.specs.SpecSliceData.{PictureShape, begins_row, column_of, has_above, has_left}
pub use Rattle.known_unit_laws.specs.SpecSliceData.{has_stored, row_of, samples_of_place, unit_step}
