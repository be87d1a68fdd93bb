-- Names of spec_picture_trees that crates above take from here.
pub use Rattle.spec_known_units.specs.SpecPictureTrees.{PictureBroken}
