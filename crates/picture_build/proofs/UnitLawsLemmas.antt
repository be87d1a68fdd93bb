-- Names of unit_laws that crates above take from here.
pub use Rattle.sample_laws.proofs.UnitLawsLemmas.{format-fits}
