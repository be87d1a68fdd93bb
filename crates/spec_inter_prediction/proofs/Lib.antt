pub mod Filters
pub mod BlockGeometryLemmas
