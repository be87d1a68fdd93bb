-- Names of cabac_contexts that crates above take from here.
pub use Rattle.transform_tree.specs.CabacContexts.{eight_from, state_of}
unfoldable pub use Rattle.transform_tree.specs.CabacContexts.{packed, unpacked}
