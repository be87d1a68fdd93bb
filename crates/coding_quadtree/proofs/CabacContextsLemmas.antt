-- Names of cabac_contexts that crates above take from here.
pub use Rattle.transform_tree.proofs.CabacContextsLemmas.{round_trip}
