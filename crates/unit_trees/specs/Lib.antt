pub mod Edges
pub mod Units
pub mod CodingQuadtree
pub mod SpecSliceData
pub mod CabacContexts
pub mod SpecCabac
pub mod CabacEngine
pub mod PictureLayout
