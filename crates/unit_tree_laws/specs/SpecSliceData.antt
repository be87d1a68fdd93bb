-- Names of spec_slice_data that crates above take from here.
pub use Rattle.spec_slice_data.specs.Residual.{samples_of_place}
pub use Rattle.spec_slice_data.specs.Segment.{Between, PictureShape, and_then, begins_row, column_of, has_above}
pub use Rattle.spec_slice_data.specs.Segment.{has_left, has_stored, no_group, nothing_read, row_of, unit_of}
pub use Rattle.spec_slice_data.specs.Segment.{unit_step}
unfoldable pub use Rattle.spec_slice_data.specs.Segment.{units_from}
