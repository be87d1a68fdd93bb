-- Names of picture_layout that crates above take from here.
pub use Rattle.unit_trees.specs.PictureLayout.{IsShape}
