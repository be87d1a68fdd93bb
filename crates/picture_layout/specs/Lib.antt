pub mod Shape
pub mod Blocks
pub mod SpecPictureTrees
pub mod SpecSliceData
pub mod PlanTypes
