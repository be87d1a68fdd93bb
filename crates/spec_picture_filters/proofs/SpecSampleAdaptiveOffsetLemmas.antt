-- Names of spec_sample_adaptive_offset that crates above take from here.
pub use Rattle.spec_loop_filters.proofs.SpecSampleAdaptiveOffsetLemmas.{in_range}
