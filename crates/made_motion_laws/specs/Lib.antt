pub mod Uniform
pub mod Keeping
