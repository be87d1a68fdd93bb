pub mod Copies
pub mod Equality
