-- Names of unit_tree_laws that crates above take from here.
pub use Rattle.known_unit_laws.proofs.UnitTreeLaws.{steps_same}
