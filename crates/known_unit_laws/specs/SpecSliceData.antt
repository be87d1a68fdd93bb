-- Names of spec_slice_data that crates above take from here.
pub use Rattle.unit_tree_laws.specs.SpecSliceData.{Between, PictureShape, begins_row, column_of, has_above, has_left}
pub use Rattle.unit_tree_laws.specs.SpecSliceData.{has_stored, no_group, nothing_read, row_of, samples_of_place}
pub use Rattle.unit_tree_laws.specs.SpecSliceData.{unit_of, unit_step}
