-- Names of spec_decoded_pictures that crates above take from here.
pub use Rattle.spec_decoder.proofs.SpecDecodedPicturesLemmas.{one_fold}
