-- Names of known_unit_laws that crates above take from here.
pub use Rattle.known_picture_laws.proofs.KnownUnitLawsEntries.{known_step}
