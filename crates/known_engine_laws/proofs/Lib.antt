pub mod Contexts
pub mod Segments
pub mod Leaving
pub mod KnownUnitLawsLemmas
