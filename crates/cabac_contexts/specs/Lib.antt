pub mod Takes
pub mod Packing
pub mod CabacEngine
