pub mod Engines
pub mod Keeping
pub mod Levels
pub mod Units
