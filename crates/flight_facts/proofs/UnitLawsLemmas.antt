-- Names of unit_laws that crates above take from here.
pub use Rattle.picture_build.proofs.UnitLawsLemmas.{format-fits}
