-- Names of spec_slice_data that crates above take from here.
unfoldable pub use Rattle.spec_slice_data.specs.Inter.{part_count}
pub use Rattle.spec_slice_data.specs.Residual.{samples_of_place}
pub use Rattle.spec_slice_data.specs.Segment.{PictureShape, column_of, row_of}
pub use Rattle.spec_slice_data.specs.Transform.{whole_of_fourth}
