-- Names of spec_decoded_pictures that crates above take from here.
pub use Rattle.spec_decoder.specs.SpecDecodedPictures.{DecodedUnits, decoded_in, joined, no_units}
unfoldable pub use Rattle.spec_decoder.specs.SpecDecodedPictures.{decoded_by}
pub use Rattle.spec_decoder.specs.SpecDecodedPictures.{reading_decoded}
unfoldable pub use Rattle.spec_decoder.specs.SpecDecodedPictures.{picture_decoded, samples_filtered}
pub use Rattle.spec_decoder.specs.SpecDecodedPictures.{units_decoded, with_unit}
unfoldable pub use Rattle.spec_decoder.specs.SpecDecodedPictures.{unit_decoded, units_folded}
