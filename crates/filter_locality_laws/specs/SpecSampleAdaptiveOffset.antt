-- Names of spec_sample_adaptive_offset that crates above take from here.
pub use Rattle.spec_loop_filters.specs.SpecSampleAdaptiveOffset.{OffsetUnit}
unfoldable pub use Rattle.spec_loop_filters.specs.SpecSampleAdaptiveOffset.{offset_sample}
