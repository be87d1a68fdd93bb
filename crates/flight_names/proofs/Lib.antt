pub mod Staying
pub mod Named
