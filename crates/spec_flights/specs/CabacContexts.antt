-- Names of cabac_contexts that crates above take from here.
pub use Rattle.cabac_contexts.specs.Packing.{eight_from}
unfoldable pub use Rattle.cabac_contexts.specs.Packing.{packed, unpacked}
