-- Names of spec_decoded_pictures that crates above take from here.
pub use Rattle.flight_facts.specs.SpecDecodedPictures.{DecodedUnits}
