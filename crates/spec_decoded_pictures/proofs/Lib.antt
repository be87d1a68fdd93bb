pub mod OneFold
pub mod Unfiltered
pub mod SpecPictureTreesLemmas
pub mod SpecLoopFiltersLemmas
pub mod SpecSampleAdaptiveOffsetLemmas
