-- Names of flight_unit_laws that crates above take from here.
pub use Rattle.flight_unit_laws.specs.Planned.{HasHalves, IsPlanned}
pub use Rattle.flight_unit_laws.specs.Stops.{HaveSegments, IsDecodedAt, StopsDecoding}
pub use Rattle.flight_unit_laws.specs.Uses.{AgreeWhereUsed, BuffersAgree, NamedAgree, PicturesAgree}
