-- Names of spec_cabac that crates above take from here.
pub use Rattle.spec_slice_data.specs.SpecCabac.{Engine}
