-- Names of spec_cabac that crates above take from here.
pub use Rattle.spec_cabac.specs.Bins.{State, Tree, read, truncated}
unfoldable pub use Rattle.spec_cabac.specs.Bins.{unary}
pub use Rattle.spec_cabac.specs.Engine.{IsLive}
