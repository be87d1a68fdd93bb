-- Names of unit_trees that crates above take from here.
pub use Rattle.unit_words.specs.UnitTrees.{Edge, UnitReader, bottom_of}
