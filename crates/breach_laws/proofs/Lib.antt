pub mod Breaking
pub mod Levels
pub mod Units
pub mod Reading
