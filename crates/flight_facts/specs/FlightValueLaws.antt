-- Names of flight_value_laws that crates above take from here.
pub use Rattle.flight_value_laws.specs.Motion.{AreMotionsHeld, HasOne, IsHeld}
pub use Rattle.flight_value_laws.specs.Ranges.{FitWords, HasMotionHeld, IsInRange}
pub use Rattle.flight_value_laws.specs.Reading.{AreUsesSound}
