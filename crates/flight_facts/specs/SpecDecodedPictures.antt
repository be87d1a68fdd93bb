-- Names of spec_decoded_pictures that crates above take from here.
pub use Rattle.picture_build.specs.SpecDecodedPictures.{DecodedUnits}
unfoldable pub use Rattle.picture_build.specs.SpecDecodedPictures.{decoded_by, samples_filtered, units_folded}
