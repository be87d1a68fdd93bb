-- Names of spec_arithmetic that crates above take from here.
pub use Rattle.block_geometry.specs.SpecArithmetic.{clip3_from_zero}
