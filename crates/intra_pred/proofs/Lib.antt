pub mod Sizes
pub mod Lines
pub mod Sums
pub mod Fills
pub mod Smoothed
pub mod Substituting
pub mod Sides
