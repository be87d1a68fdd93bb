-- Names of unit_words that crates above take from here.
pub use Rattle.row_above_laws.specs.UnitWords.{DoneUnit}
