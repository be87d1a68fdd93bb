-- Names of spec_decoder that crates above take from here.
pub use Rattle.flight_unit_laws.specs.SpecDecoderDecoder.{BufferPicture, kept_as, pictures_in}
