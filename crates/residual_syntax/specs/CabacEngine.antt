-- Names of cabac_engine that crates above take from here.
pub use Rattle.cabac_contexts.specs.CabacEngine.{state_of}
