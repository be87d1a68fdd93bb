pub mod Loops
pub mod SpecFormatsLemmas
