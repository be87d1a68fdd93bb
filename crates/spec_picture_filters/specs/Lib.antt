pub mod Data
pub mod Units
pub mod Filtered
pub mod Disabled
pub mod SpecLoopFilters
pub mod SpecDeblocking
pub mod SpecBoundaryStrengths
pub mod SpecPictureMotion
