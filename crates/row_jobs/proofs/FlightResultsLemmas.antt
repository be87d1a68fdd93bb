-- Names of flight_results that crates above take from here.
pub use Rattle.flight_results.proofs.Flights.{kept_pictures}
