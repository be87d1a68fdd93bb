-- Names of spec_picture_build that crates above take from here.
pub use Rattle.locality_laws.specs.SpecPictureBuild.{DecodedPicture, Samples, format_height, motions_in}
unfoldable pub use Rattle.locality_laws.specs.SpecPictureBuild.{has_sample}
pub use Rattle.locality_laws.specs.SpecPictureBuild.{motions_of, unit_side, width_of}
unfoldable pub use Rattle.locality_laws.specs.SpecPictureBuild.{unit_inter}
