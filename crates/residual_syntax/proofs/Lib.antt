pub mod Positions
pub mod ShortRemaining
pub mod CabacContextsLemmas
pub mod SpecCabacLemmas
