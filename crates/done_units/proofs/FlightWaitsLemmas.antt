-- Names of flight_waits that crates above take from here.
pub use Rattle.flight_waits.proofs.Waited.{line_there, sized}
