-- Names of spec_sample_adaptive_offset that crates above take from here.
pub use Rattle.filter_locality_laws.specs.SpecSampleAdaptiveOffset.{OffsetUnit}
