-- Names of spec_slice_data that crates above take from here.
pub use Rattle.spec_slice_data.specs.Segment.{PictureShape}
pub use Rattle.spec_slice_data.specs.Transform.{whole_of_fourth}
