-- Names of spec_picture_build that crates above take from here.
pub use Rattle.unit_laws.specs.SpecPictureBuild.{Samples, motions_of}
unfoldable pub use Rattle.unit_laws.specs.SpecPictureBuild.{has_sample}
