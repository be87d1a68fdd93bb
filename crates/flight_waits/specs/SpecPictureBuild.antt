-- Names of spec_picture_build that crates above take from here.
pub use Rattle.flight_facts.specs.SpecPictureBuild.{DecodedPicture}
unfoldable pub use Rattle.flight_facts.specs.SpecPictureBuild.{unit_format}
