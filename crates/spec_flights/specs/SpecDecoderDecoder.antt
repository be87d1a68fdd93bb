-- Names of spec_decoder that crates above take from here.
pub use Rattle.spec_decoder.specs.Decoder.{BufferPicture, is_among, kept_as, pictures_in}
unfoldable pub use Rattle.spec_decoder.specs.Decoder.{kept_from}
