-- Names of unit_trees that crates above take from here.
pub use Rattle.unit_tree_laws.specs.UnitTrees.{Edge, bottom_of, place_of, right_of, then_next}
unfoldable pub use Rattle.unit_tree_laws.specs.UnitTrees.{unit_beside, unit_over}
