-- Names of spec_arithmetic that crates above take from here.
pub use Rattle.picture_buffer.specs.SpecArithmetic.{clip3}
