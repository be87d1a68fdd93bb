-- Names of spec_decoder that crates above take from here.
pub use Rattle.flight_value_laws.specs.SpecDecoder.{BufferPicture, is_among, kept_as, pictures_in, told}
unfoldable pub use Rattle.flight_value_laws.specs.SpecDecoder.{kept_from}
