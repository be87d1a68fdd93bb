pub mod Bands
pub mod Samples
