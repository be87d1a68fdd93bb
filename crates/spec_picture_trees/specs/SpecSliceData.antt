-- Names of spec_slice_data that crates above take from here.
pub use Rattle.spec_slice_data.specs.Offset.{no_sao}
pub use Rattle.spec_slice_data.specs.Residual.{samples_of_place}
pub use Rattle.spec_slice_data.specs.Segment.{Between, PictureShape, begins_row, column_of, has_above, has_left}
pub use Rattle.spec_slice_data.specs.Segment.{has_stored, is_first, no_group, nothing_read, row_of, side_of, unit_of}
pub use Rattle.spec_slice_data.specs.Segment.{unit_step}
