pub mod Judges
pub mod CabacContexts
pub mod CabacEngine
pub mod SpecCabac
pub mod SpecFormats
