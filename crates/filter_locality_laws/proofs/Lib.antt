pub mod Near
pub mod Sizes
pub mod Rows
