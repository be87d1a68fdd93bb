-- Names of spec_slice_data that crates above take from here.
pub use Rattle.spec_reconstruction.specs.SpecSliceData.{PictureShape, column_of, samples_of_place}
