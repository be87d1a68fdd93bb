-- Names of unit_trees that crates above take from here.
pub use Rattle.unit_tree_laws.proofs.UnitTreesLemmas.{above_there, at_side, behind_is, left_there, side_near}
