pub mod Written
pub mod Continuing
pub mod Units
pub mod InOrder
pub mod SpecDecodedPicturesLemmas
