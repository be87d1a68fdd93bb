pub mod Contexts
pub mod Engine
pub mod Bins
pub mod Plain
pub mod TablesByColumn
pub mod SpecFormats
pub mod SpecBits
pub mod HvBase
