pub mod ReferencePictures
pub mod SequenceParameterSets
pub mod Content
pub mod Scaling
pub mod PictureParameterSet
