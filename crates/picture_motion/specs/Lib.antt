pub mod Units
pub mod Deriving
pub mod CtuMotion
pub mod PictureLayout
