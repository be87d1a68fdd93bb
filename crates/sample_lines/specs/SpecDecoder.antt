-- Names of spec_decoder that crates above take from here.
pub use Rattle.flight_facts.specs.SpecDecoder.{BufferPicture, kept_as, pictures_in}
