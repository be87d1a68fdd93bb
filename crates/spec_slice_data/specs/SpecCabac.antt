-- Names of spec_cabac that crates above take from here.
pub use Rattle.spec_residuals.specs.SpecCabac.{Engine, IsLive, State, clip3, read, start_at}
unfoldable pub use Rattle.spec_residuals.specs.SpecCabac.{first_contexts}
