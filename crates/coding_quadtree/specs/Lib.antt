pub mod Beside
pub mod Judged
pub mod Next
pub mod CabacContexts
pub mod SpecCabac
pub mod CabacEngine
pub mod SpecFormats
