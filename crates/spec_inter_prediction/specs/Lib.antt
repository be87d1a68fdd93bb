pub mod Taps
pub mod Luma
pub mod Chroma
pub mod Weighting
pub mod Tables
pub mod BlockGeometry
