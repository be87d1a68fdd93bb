pub mod Starts
pub mod Units
pub mod Stored
pub mod CodingQuadtreeLemmas
pub mod UnitTreesLemmas
