-- Names of picture_build that crates above take from here.
pub use Rattle.picture_build.specs.Formats.{HasDepths, IsCommon}
