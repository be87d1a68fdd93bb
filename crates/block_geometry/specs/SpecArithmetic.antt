-- Names of spec_arithmetic that crates above take from here.
pub use Rattle.spec_arithmetic.specs.Clipping.{clip1, clip3, clip3_from_zero, nat_clip3}
pub use Rattle.spec_arithmetic.specs.Rounding.{rounded}
