-- Names of unit_trees that crates above take from here.
pub use Rattle.unit_trees.specs.Edges.{bottom_of, place_of, right_of}
pub use Rattle.unit_trees.specs.Units.{then_next}
unfoldable pub use Rattle.unit_trees.specs.Units.{unit_beside, unit_over}
pub use Rattle.unit_trees.specs.declared.edges.Edge.{Edge}
