-- Names of flight_lines that crates above take from here.
pub use Rattle.flight_lines.specs.Flights.{BoardFlight, HasFewRules, IsOnBoard, IsSized, TellsBad}
unfoldable pub use Rattle.flight_lines.specs.Flights.{meaning_of}
pub use Rattle.flight_lines.specs.Held.{HoldsFlight, IsClosed}
pub use Rattle.flight_lines.specs.Shown.{ShowsState, least_in}
