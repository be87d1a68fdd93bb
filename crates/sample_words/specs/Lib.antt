pub mod Sizes
pub mod Packing
pub mod Values
pub mod Offsets
pub mod Carried
pub mod Contents
pub mod Words
pub mod SpecMotion
