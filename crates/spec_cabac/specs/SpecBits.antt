-- Names of spec_bits that crates above take from here.
pub use Rattle.spec_bits.specs.Bits.{digit}
unfoldable pub use Rattle.spec_bits.specs.Bits.{bit_of, bits}
