pub mod PictureOrderCount
pub mod ReferenceLists
pub mod ReferencePictureSet
pub mod ShortTermSets
pub mod SpecFormats
pub mod SpecBits
pub mod HeaderTypes
