pub mod Beside
pub mod Given
pub mod Reading
pub mod SpecPictureTrees
pub mod PictureLayout
