pub mod Places
pub mod Fresh
pub mod Units
pub mod Lines
pub mod Same
pub mod Gathered
pub mod Formats
pub mod Whole
