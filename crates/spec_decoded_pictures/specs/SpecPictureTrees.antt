-- Names of spec_picture_trees that crates above take from here.
pub use Rattle.spec_picture_build.specs.SpecPictureTrees.{PictureBroken, Progress, addresses}
unfoldable pub use Rattle.spec_picture_build.specs.SpecPictureTrees.{picture_read}
pub use Rattle.spec_picture_build.specs.SpecPictureTrees.{with_segments}
unfoldable pub use Rattle.spec_picture_build.specs.SpecPictureTrees.{picture_units, shared_units}
