-- Names of unit_words that crates above take from here.
pub use Rattle.unit_words.proofs.Resumed.{contexts_found}
