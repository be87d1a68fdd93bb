pub mod Fronts
pub mod HeaderFacts
pub mod Grouping
pub mod SpecReferencePicturesLemmas
