pub mod Bounds
pub mod Fewer
pub mod Parity
pub mod Tables
