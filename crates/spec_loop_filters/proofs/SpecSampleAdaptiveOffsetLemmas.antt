-- Names of spec_sample_adaptive_offset that crates above take from here.
pub use Rattle.spec_sample_adaptive_offset.proofs.Samples.{beside_alone, in_range}
