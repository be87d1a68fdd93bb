-- Names of flight_unit_laws that crates above take from here.
pub use Rattle.flight_unit_laws.proofs.Pictures.{as_many, height_is, width_is}
