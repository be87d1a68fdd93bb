pub mod Across
pub mod Unchanged
pub mod Locality
