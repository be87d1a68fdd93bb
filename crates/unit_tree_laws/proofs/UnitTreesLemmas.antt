-- Names of unit_trees that crates above take from here.
pub use Rattle.unit_trees.proofs.Beside.{above_there, left_there}
pub use Rattle.unit_trees.proofs.Sides.{at_side, side_near}
pub use Rattle.unit_trees.proofs.Steps.{behind_is}
