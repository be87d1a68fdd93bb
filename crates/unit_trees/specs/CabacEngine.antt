-- Names of cabac_engine that crates above take from here.
pub use Rattle.coding_quadtree.specs.CabacEngine.{state_of}
