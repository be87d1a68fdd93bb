-- Names of row_trees that crates above take from here.
pub use Rattle.row_trees.specs.Reading.{BeginsAlone, CarriesBehind, IsReadAs, IsReadByKnown, IsReadKnown, IsUnder}
pub use Rattle.row_trees.specs.Reading.{OfSegment, Reads, StandsBefore, known_to}
pub use Rattle.row_trees.specs.declared.row_reader.RowReader.{RowReader}
