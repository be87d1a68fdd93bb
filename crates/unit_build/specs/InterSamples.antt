-- Names of inter_samples that crates above take from here.
pub use Rattle.ctu_build.specs.InterSamples.{AreSmall, inter_unit}
