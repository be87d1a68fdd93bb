pub mod Threaded
pub mod Quiet
pub mod SpecLoopFiltersLemmas
pub mod SpecSampleAdaptiveOffsetLemmas
