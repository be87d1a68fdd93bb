pub mod Held
pub mod Building
pub mod Offsets
pub mod Inter
pub mod InterSamples
pub mod Scaled
pub mod Beside
