-- Names of cabac_contexts that crates above take from here.
pub use Rattle.spec_flights.proofs.CabacContextsLemmas.{round_trip}
