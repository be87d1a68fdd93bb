pub mod Unchanged
pub mod Ranges
pub mod SpecDeblockingLemmas
pub mod SpecSampleAdaptiveOffsetLemmas
