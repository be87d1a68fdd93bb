-- Names of flight_results that crates above take from here.
pub use Rattle.flight_results.specs.Decoding.{Decodes, buffer_with}
