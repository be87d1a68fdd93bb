-- Names of spec_bits that crates above take from here.
unfoldable pub use Rattle.spec_formats.specs.SpecBits.{aligned_at, bits, flag_at}
