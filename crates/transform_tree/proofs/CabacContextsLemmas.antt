-- Names of cabac_contexts that crates above take from here.
pub use Rattle.residual_syntax.proofs.CabacContextsLemmas.{round_trip}
