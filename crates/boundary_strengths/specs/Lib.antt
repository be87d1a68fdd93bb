pub mod Held
pub mod Marking
pub mod SpecBoundaryStrengths
