-- Names of unit_words that crates above take from here.
pub use Rattle.unit_words.specs.Above.{AreContexts, AreOfCarry}
