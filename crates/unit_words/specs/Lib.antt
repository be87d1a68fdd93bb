pub mod Units
pub mod Work
pub mod Above
pub mod UnitTrees
pub mod UnitBuild
pub mod PictureLayout
pub mod SpecPictureBuild
pub mod InterSamples
