-- Names of flight_windows that crates above take from here.
pub use Rattle.row_waits.proofs.FlightWindowsLemmas.{later_seen}
