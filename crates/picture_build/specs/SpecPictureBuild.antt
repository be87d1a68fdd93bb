-- Names of spec_picture_build that crates above take from here.
pub use Rattle.spec_picture_build.specs.Border.{Samples}
unfoldable pub use Rattle.spec_picture_build.specs.Format.{unit_format}
pub use Rattle.spec_picture_build.specs.References.{DecodedPicture}
