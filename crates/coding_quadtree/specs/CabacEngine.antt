-- Names of cabac_engine that crates above take from here.
pub use Rattle.transform_tree.specs.CabacEngine.{state_of}
