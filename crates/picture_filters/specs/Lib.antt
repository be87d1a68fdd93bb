pub mod Places
pub mod Units
pub mod Filtering
pub mod Given
pub mod SpecPictureTrees
pub mod PlanTypes
