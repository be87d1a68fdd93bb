-- Names of flight_windows that crates above take from here.
pub use Rattle.flight_windows.specs.Pictures.{seen_pictures}
pub use Rattle.flight_windows.specs.Seen.{AreFlagsSeen, HasRows, SeenFlags}
unfoldable pub use Rattle.flight_windows.specs.Seen.{is_seen}
pub use Rattle.flight_windows.specs.Windows.{IsKnown, bases_in}
