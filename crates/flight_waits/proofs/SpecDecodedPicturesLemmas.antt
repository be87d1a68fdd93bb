-- Names of spec_decoded_pictures that crates above take from here.
pub use Rattle.flight_facts.proofs.SpecDecodedPicturesLemmas.{one_fold}
