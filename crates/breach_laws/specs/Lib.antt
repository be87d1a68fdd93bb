pub mod SpecKnownUnits
pub mod SpecPictureTrees
