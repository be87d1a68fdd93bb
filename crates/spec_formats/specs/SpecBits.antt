-- Names of spec_bits that crates above take from here.
unfoldable pub use Rattle.spec_bits.specs.Alignment.{aligned_at}
unfoldable pub use Rattle.spec_bits.specs.Bits.{bits, flag_at}
