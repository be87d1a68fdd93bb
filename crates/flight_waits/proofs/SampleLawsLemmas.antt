-- Names of sample_laws that crates above take from here.
pub use Rattle.flight_facts.proofs.SampleLawsLemmas.{built_below}
