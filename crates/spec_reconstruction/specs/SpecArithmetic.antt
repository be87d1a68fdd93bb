-- Names of spec_arithmetic that crates above take from here.
pub use Rattle.spec_transforms.specs.SpecArithmetic.{clip3, clip3_from_zero}
