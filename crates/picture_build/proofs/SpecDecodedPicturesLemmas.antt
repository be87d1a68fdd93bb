-- Names of spec_decoded_pictures that crates above take from here.
pub use Rattle.sample_laws.proofs.SpecDecodedPicturesLemmas.{one_fold}
