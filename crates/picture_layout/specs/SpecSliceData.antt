-- Names of spec_slice_data that crates above take from here.
pub use Rattle.spec_picture_trees.specs.SpecSliceData.{PictureShape, column_of, row_of, samples_of_place}
