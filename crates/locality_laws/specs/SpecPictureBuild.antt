-- Names of spec_picture_build that crates above take from here.
pub use Rattle.spec_picture_build.specs.Border.{Samples, unit_side, width_of}
unfoldable pub use Rattle.spec_picture_build.specs.Border.{has_sample}
pub use Rattle.spec_picture_build.specs.Built.{is_of_unit}
unfoldable pub use Rattle.spec_picture_build.specs.Built.{unit_inter, units_built}
pub use Rattle.spec_picture_build.specs.References.{DecodedPicture, format_height, motions_in, motions_of}
