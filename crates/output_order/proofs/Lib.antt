pub mod Discarded
pub mod MarkedPictures
pub mod Sizes
pub mod SpecOutputOrderLemmas
