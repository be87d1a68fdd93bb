-- Names of cabac_contexts that crates above take from here.
pub use Rattle.residual_syntax.specs.CabacContexts.{Reaches, Takes, eight_from, state_of}
unfoldable pub use Rattle.residual_syntax.specs.CabacContexts.{packed, unpacked}
