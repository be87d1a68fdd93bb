-- Names of flight_value_laws that crates above take from here.
pub use Rattle.flight_value_laws.specs.Motion.{kept_in, motion_where}
unfoldable pub use Rattle.flight_value_laws.specs.Motion.{kept_motion}
pub use Rattle.flight_value_laws.specs.Ranges.{IsInRange}
pub use Rattle.flight_value_laws.specs.Reading.{AreUsesSound, IsTopEdge}
