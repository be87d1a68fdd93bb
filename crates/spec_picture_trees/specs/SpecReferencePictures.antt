-- Names of spec_reference_pictures that crates above take from here.
pub use Rattle.spec_slice_headers.specs.SpecReferencePictures.{no_reference}
