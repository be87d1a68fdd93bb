-- Names of inter_samples that crates above take from here.
pub use Rattle.inter_samples.specs.Inter.{AreSmall, inter_unit}
