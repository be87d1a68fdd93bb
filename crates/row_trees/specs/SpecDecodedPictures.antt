-- Names of spec_decoded_pictures that crates above take from here.
unfoldable pub use Rattle.flight_value_laws.specs.SpecDecodedPictures.{picture_decoded}
