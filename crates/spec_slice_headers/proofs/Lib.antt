pub mod Cuts
pub mod Ranges
pub mod SpecNalUnitsLemmas
pub mod SpecParameterSetsLemmas
pub mod SpecReferencePicturesLemmas
