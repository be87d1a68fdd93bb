-- Names of spec_decoded_pictures that crates above take from here.
unfoldable pub use Rattle.spec_decoded_pictures.specs.Decoded.{picture_decoded}
