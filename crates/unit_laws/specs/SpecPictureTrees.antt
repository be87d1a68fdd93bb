-- Names of spec_picture_trees that crates above take from here.
pub use Rattle.spec_picture_build.specs.SpecPictureTrees.{Halt, PictureBroken, Progress, TreeUnit}
unfoldable pub use Rattle.spec_picture_build.specs.SpecPictureTrees.{picture_read}
pub use Rattle.spec_picture_build.specs.SpecPictureTrees.{slice_start}
unfoldable pub use Rattle.spec_picture_build.specs.SpecPictureTrees.{picture_shape}
