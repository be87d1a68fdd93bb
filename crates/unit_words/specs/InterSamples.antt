-- Names of inter_samples that crates above take from here.
pub use Rattle.unit_build.specs.InterSamples.{AreSmall}
