-- Names of picture_build that crates above take from here.
pub use Rattle.flight_facts.specs.PictureBuild.{BuildsPicture}
pub use Rattle.flight_facts.specs.PictureBuildPictures.{buffer_of, decoded_of}
