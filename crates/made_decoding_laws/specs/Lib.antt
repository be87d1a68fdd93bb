pub mod References
pub mod Turns
pub mod Shown
