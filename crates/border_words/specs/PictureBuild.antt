-- Names of picture_build that crates above take from here.
pub use Rattle.sample_lines.specs.PictureBuild.{HasDepths, IsCommon, buffer_of, of_slice}
