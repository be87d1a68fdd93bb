-- Names of spec_picture_build that crates above take from here.
pub use Rattle.spec_picture_build.specs.Border.{Samples}
unfoldable pub use Rattle.spec_picture_build.specs.Output.{picture_bytes}
pub use Rattle.spec_picture_build.specs.References.{DecodedPicture, format_height, format_width, motions_of}
