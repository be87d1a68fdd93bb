-- Names of flight_facts that crates above take from here.
pub use Rattle.sample_lines.proofs.FlightFactsLemmas.{board_sizes, picture_sizes}
