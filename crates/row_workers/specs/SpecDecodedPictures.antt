-- Names of spec_decoded_pictures that crates above take from here.
unfoldable pub use Rattle.built_rows.specs.SpecDecodedPictures.{picture_decoded}
