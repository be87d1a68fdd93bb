-- Names of unit_words that crates above take from here.
pub use Rattle.unit_words.specs.Above.{AreBottom, ArePlace}
pub use Rattle.unit_words.specs.declared.done_unit.DoneUnit.{DoneUnit}
pub use Rattle.unit_words.specs.declared.unit_above.KnownPlace.{KnownPlace}
