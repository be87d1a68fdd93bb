-- Names of unit_laws that crates above take from here.
pub use Rattle.flight_facts.proofs.UnitLawsLemmas.{format-fits}
