-- Names of spec_decoder that crates above take from here.
pub use Rattle.known_picture_laws.specs.SpecDecoder.{BufferPicture, is_among, kept_as, pictures_in, told}
unfoldable pub use Rattle.known_picture_laws.specs.SpecDecoder.{kept_from}
