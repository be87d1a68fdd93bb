-- Names of spec_picture_build that crates above take from here.
pub use Rattle.picture_build.specs.SpecPictureBuild.{DecodedPicture}
unfoldable pub use Rattle.picture_build.specs.SpecPictureBuild.{unit_format}
