-- Names of hv_base that crates above take from here.
pub use Rattle.hv_base.specs.declared.breach.Breach.{Breach}
