-- Names of spec_decoder that crates above take from here.
pub use Rattle.spec_flights.specs.SpecDecoder.{told}
pub use Rattle.spec_flights.specs.SpecDecoderDecoder.{BufferPicture, is_among, kept_as, pictures_in}
unfoldable pub use Rattle.spec_flights.specs.SpecDecoderDecoder.{kept_from}
