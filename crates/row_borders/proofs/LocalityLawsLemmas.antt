-- Names of locality_laws that crates above take from here.
pub use Rattle.known_picture_laws.proofs.LocalityLawsMotion.{place_is}
