-- Names of spec_picture_trees that crates above take from here.
pub use Rattle.spec_picture_trees.proofs.Sharing.{units_of_picture, units_of_segments}
