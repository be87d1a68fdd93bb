-- Names of picture_build that crates above take from here.
pub use Rattle.flight_waits.specs.PictureBuild.{IsCommon, buffer_of, decoded_of}
