pub mod Samples
pub mod Windows
pub mod Lanes
pub mod Passes
pub mod Pairs
pub mod Rows
