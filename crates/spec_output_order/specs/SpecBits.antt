-- Names of spec_bits that crates above take from here.
unfoldable pub use Rattle.spec_reference_pictures.specs.SpecBits.{bits, flag_at}
