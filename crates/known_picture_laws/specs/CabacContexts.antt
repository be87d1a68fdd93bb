-- Names of cabac_contexts that crates above take from here.
pub use Rattle.spec_flights.specs.CabacContexts.{eight_from}
unfoldable pub use Rattle.spec_flights.specs.CabacContexts.{packed, unpacked}
