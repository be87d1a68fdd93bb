-- Names of cabac_contexts that crates above take from here.
pub use Rattle.coding_quadtree.specs.CabacContexts.{eight_from, state_of}
unfoldable pub use Rattle.coding_quadtree.specs.CabacContexts.{packed, unpacked}
