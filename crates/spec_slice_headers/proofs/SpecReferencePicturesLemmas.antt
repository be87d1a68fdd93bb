-- Names of spec_reference_pictures that crates above take from here.
pub use Rattle.spec_parameter_sets.proofs.SpecReferencePicturesLemmas.{can_be_near}
