-- Names of spec_arithmetic that crates above take from here.
pub use Rattle.spec_arithmetic.specs.Clipping.{clip3}
pub use Rattle.spec_arithmetic.specs.Rounding.{rounded}
