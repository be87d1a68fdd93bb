-- Names of flight_windows that crates above take from here.
pub use Rattle.row_waits.specs.FlightWindows.{AreFlagsSeen, HasRows, bases_in}
