pub mod Offsets
pub mod Powers
pub mod Sides
pub mod Steps
pub mod Trees
pub mod CabacContextsLemmas
