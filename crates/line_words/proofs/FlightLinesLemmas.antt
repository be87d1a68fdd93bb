-- Names of flight_lines that crates above take from here.
pub use Rattle.flight_lines.proofs.Closed.{closed_holds}
pub use Rattle.flight_lines.proofs.Laid.{laid}
pub use Rattle.flight_lines.proofs.Meant.{lawful}
pub use Rattle.flight_lines.proofs.Steps.{reached_shows}
