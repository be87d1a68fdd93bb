pub mod Formats
pub mod Pictures
pub mod Building
pub mod Standing
pub mod Referring
pub mod Fresh
pub mod SpecPictureBuild
pub mod SpecDecodedPictures
