pub mod Known
pub mod InOrder
pub mod PlanTypes
pub mod SpecPictureTrees
pub mod SpecSliceData
pub mod SpecSliceHeaders
