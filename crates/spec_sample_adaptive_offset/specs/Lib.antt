pub mod Offsets
pub mod Plane
pub mod BlockGeometry
pub mod CtuRecords
pub mod SpecArithmetic
