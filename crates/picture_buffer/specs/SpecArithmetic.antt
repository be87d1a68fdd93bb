-- Names of spec_arithmetic that crates above take from here.
pub use Rattle.spec_motion.specs.SpecArithmetic.{clip3}
