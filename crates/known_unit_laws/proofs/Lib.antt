pub mod Entries
pub mod Lookup
pub mod Beside
pub mod Reading
pub mod UnitTreeLaws
pub mod CodingQuadtreeLemmas
pub mod UnitTreesLemmas
