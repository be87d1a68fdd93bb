-- Names of flight_workers that crates above take from here.
pub use Rattle.flight_workers.specs.Working.{MayFan}
