-- Names of spec_decoder that crates above take from here.
pub use Rattle.known_picture_laws.specs.SpecDecoder.{BufferPicture, kept_as, pictures_in}
