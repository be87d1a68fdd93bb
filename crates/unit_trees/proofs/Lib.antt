pub mod Sides
pub mod SegmentContexts
pub mod Following
pub mod Beside
pub mod Steps
pub mod CabacContextsLemmas
pub mod PictureLayoutLemmas
pub mod CodingQuadtreeLemmas
