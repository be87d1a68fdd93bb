-- Names of cabac_engine that crates above take from here.
pub use Rattle.cabac_engine.specs.Steps.{spelled, state_of}
