-- Names of unit_words that crates above take from here.
pub use Rattle.unit_words.specs.Work.{HasContent, HasWord, IsPackable, height, width}
pub use Rattle.unit_words.specs.declared.done_unit.DoneUnit.{DoneUnit}
