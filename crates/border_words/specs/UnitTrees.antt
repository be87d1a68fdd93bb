-- Names of unit_trees that crates above take from here.
pub use Rattle.row_above_laws.specs.UnitTrees.{Edge, UnitReader, bottom_of}
