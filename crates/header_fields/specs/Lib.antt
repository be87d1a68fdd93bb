pub mod Takes
pub mod SpecFormats
