-- Names of spec_picture_build that crates above take from here.
pub use Rattle.unit_build.specs.SpecPictureBuild.{Samples}
