-- Names of spec_slice_data that crates above take from here.
pub use Rattle.spec_picture_trees.specs.SpecSliceData.{PictureShape, side_of}
