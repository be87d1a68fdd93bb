-- Names of picture_build that crates above take from here.
pub use Rattle.flight_ranges.specs.PictureBuild.{buffer_of, decoded_of}
