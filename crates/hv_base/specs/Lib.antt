pub mod Stops
pub mod Text
