-- Names of spec_decoded_pictures that crates above take from here.
pub use Rattle.spec_flights.specs.SpecDecodedPictures.{DecodedUnits}
unfoldable pub use Rattle.spec_flights.specs.SpecDecodedPictures.{decoded_by, picture_decoded, unit_decoded}
