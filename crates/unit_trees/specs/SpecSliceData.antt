-- Names of spec_slice_data that crates above take from here.
pub use Rattle.spec_slice_data.specs.Segment.{side_of}
