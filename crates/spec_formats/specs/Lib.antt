pub mod Format
pub mod Fields
pub mod Locality
pub mod SpecBits
