pub mod Filters
pub mod SpecSampleAdaptiveOffset
pub mod SpecDeblocking
pub mod BlockGeometry
