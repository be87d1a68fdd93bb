-- Names of spec_arithmetic that crates above take from here.
pub use Rattle.block_geometry.specs.SpecArithmetic.{clip3, clip3_from_zero, nat_clip3, rounded}
