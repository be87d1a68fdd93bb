-- Names of spec_decoder that crates above take from here.
pub use Rattle.known_picture_laws.specs.SpecFlights.{BufferPicture, is_among, kept_as, pictures_in}
unfoldable pub use Rattle.known_picture_laws.specs.SpecFlights.{kept_from}
