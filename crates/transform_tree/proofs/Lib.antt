pub mod Growth
pub mod Powers
pub mod Trees
pub mod CabacContextsLemmas
