-- Names of spec_picture_build that crates above take from here.
pub use Rattle.spec_picture_build.specs.Border.{Samples}
