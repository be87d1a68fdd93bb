-- Names of flight_windows that crates above take from here.
pub use Rattle.flight_windows.proofs.Agreeing.{same_motions, seen_agree}
pub use Rattle.flight_windows.proofs.Staying.{later_seen}
