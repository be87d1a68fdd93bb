pub mod Gathered
pub mod Blocks
pub mod Lines
pub mod References
pub mod Derived
pub mod Joining
pub mod PictureLayoutLemmas
