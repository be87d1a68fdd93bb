-- Names of cabac_engine that crates above take from here.
pub use Rattle.residual_syntax.specs.CabacEngine.{state_of}
