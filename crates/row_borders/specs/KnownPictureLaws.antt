-- Names of known_picture_laws that crates above take from here.
pub use Rattle.known_picture_laws.specs.Steps.{AgreeOnUnit}
