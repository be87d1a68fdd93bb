-- Names of inter_samples that crates above take from here.
pub use Rattle.unit_words.specs.InterSamples.{AreSmall}
