-- Names of spec_reference_pictures that crates above take from here.
pub use Rattle.spec_reference_pictures.proofs.Sets.{can_be_near}
