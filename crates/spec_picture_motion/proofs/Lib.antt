pub mod Beneath
pub mod SpecPictureTreesLemmas
