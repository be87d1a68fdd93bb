pub mod Decoded
pub mod SpecPictureFilters
pub mod SpecPictureBuild
pub mod SpecPictureMotion
pub mod SpecPictureTrees
pub mod SpecLoopFilters
pub mod SpecDeblocking
pub mod SpecBoundaryStrengths
