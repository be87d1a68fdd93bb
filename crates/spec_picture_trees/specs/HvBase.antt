-- Names of hv_base that crates above take from here.
pub use Rattle.spec_slice_headers.specs.HvBase.{Breach}
