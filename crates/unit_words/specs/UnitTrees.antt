-- Names of unit_trees that crates above take from here.
pub use Rattle.unit_trees.specs.Edges.{bottom_of, no_edge, right_of}
pub use Rattle.unit_trees.specs.Units.{MayGoOn, between_of}
pub use Rattle.unit_trees.specs.declared.edges.Edge.{Edge}
pub use Rattle.unit_trees.specs.declared.units.UnitReader.{UnitReader}
