pub mod Segments
pub mod BlockGeometry
pub mod SliceTypes
