-- Names of spec_picture_build that crates above take from here.
pub use Rattle.spec_decoded_pictures.specs.SpecPictureBuild.{DecodedPicture, Samples, motions_of}
