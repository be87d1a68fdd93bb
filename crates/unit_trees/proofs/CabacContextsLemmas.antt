-- Names of cabac_contexts that crates above take from here.
pub use Rattle.coding_quadtree.proofs.CabacContextsLemmas.{round_trip}
