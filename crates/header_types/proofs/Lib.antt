pub mod Equality
pub mod ReferencePictures
