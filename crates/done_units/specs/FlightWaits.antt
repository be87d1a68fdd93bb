-- Names of flight_waits that crates above take from here.
pub use Rattle.flight_waits.specs.Waits.{AreAllKnown, AreSeen, HasSameParts, HasWaited, HoldsUnit}
