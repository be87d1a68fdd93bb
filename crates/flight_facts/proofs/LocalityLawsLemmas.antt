-- Names of locality_laws that crates above take from here.
pub use Rattle.flight_unit_laws.proofs.LocalityLawsLemmas.{place_is, some_units}
