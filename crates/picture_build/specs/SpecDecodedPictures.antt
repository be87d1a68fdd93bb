-- Names of spec_decoded_pictures that crates above take from here.
pub use Rattle.sample_laws.specs.SpecDecodedPictures.{DecodedUnits}
unfoldable pub use Rattle.sample_laws.specs.SpecDecodedPictures.{decoded_by, samples_filtered, units_folded}
