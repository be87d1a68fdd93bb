-- Names of spec_nal_units that crates above take from here.
pub use Rattle.spec_slice_headers.specs.SpecNalUnits.{NalUnit, Told, told_of}
