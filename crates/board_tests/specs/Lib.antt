pub mod Sums
pub mod Lawful
pub mod Steps
pub mod Passes
pub mod Stands
