-- Names of spec_cabac that crates above take from here.
pub use Rattle.spec_cabac.specs.Bins.{State, Terminate, read}
unfoldable pub use Rattle.spec_cabac.specs.Bins.{bin_at}
pub use Rattle.spec_cabac.specs.Contexts.{clip3, contexts_of}
unfoldable pub use Rattle.spec_cabac.specs.Contexts.{first_contexts}
pub use Rattle.spec_cabac.specs.Engine.{Engine, IsLive}
pub use Rattle.spec_cabac.specs.declared.init_values.TheConstants.{INIT_VALUES}
