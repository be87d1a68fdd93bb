-- Names of spec_decoded_pictures that crates above take from here.
pub use Rattle.spec_decoded_pictures.specs.Decoded.{DecodedUnits, decoded_in, joined, no_units}
unfoldable pub use Rattle.spec_decoded_pictures.specs.Decoded.{decoded_by}
pub use Rattle.spec_decoded_pictures.specs.Decoded.{reading_decoded}
unfoldable pub use Rattle.spec_decoded_pictures.specs.Decoded.{picture_decoded, samples_filtered, unit_decoded}
pub use Rattle.spec_decoded_pictures.specs.Decoded.{units_decoded, with_unit}
unfoldable pub use Rattle.spec_decoded_pictures.specs.Decoded.{units_folded}
