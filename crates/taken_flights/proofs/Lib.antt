pub mod Lists
pub mod Passes
pub mod Broken
pub mod Parts
