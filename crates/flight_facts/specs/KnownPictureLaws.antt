-- Names of known_picture_laws that crates above take from here.
pub use Rattle.flight_unit_laws.specs.KnownPictureLaws.{IsInOrder}
