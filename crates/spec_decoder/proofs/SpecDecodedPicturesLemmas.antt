-- Names of spec_decoded_pictures that crates above take from here.
pub use Rattle.spec_decoded_pictures.proofs.OneFold.{one_fold}
