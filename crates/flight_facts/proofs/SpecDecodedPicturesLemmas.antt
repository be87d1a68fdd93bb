-- Names of spec_decoded_pictures that crates above take from here.
pub use Rattle.picture_build.proofs.SpecDecodedPicturesLemmas.{one_fold}
