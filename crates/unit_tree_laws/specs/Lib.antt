pub mod Agreement
pub mod SpecSliceData
pub mod BlockGeometry
pub mod UnitTrees
pub mod CodingQuadtree
