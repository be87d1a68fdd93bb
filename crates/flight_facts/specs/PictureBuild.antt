-- Names of picture_build that crates above take from here.
pub use Rattle.picture_build.specs.Building.{BuildsPicture}
pub use Rattle.picture_build.specs.Formats.{HasDepths, IsCommon, of_slice}
pub use Rattle.picture_build.specs.Pictures.{buffer_of, decoded_of}
