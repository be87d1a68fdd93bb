pub mod Clipping
pub mod Rounding
pub mod Sums
