pub mod OutputOrder
pub mod Waiting
pub mod CurrentPictures
pub mod Buffer
pub mod SpecBits
pub mod SpecReferencePictures
pub mod SpecFormats
pub mod PlanTypes
