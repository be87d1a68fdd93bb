pub mod Seen
pub mod Pictures
pub mod Windows
pub mod Lines
pub mod Reading
pub mod SpecPictureMotion
