-- Names of cabac_contexts that crates above take from here.
pub use Rattle.cabac_contexts.proofs.Packs.{round_trip}
