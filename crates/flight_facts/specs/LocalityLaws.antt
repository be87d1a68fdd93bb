-- Names of locality_laws that crates above take from here.
pub use Rattle.flight_unit_laws.specs.LocalityLaws.{luma_line}
