-- Names of flight_facts that crates above take from here.
pub use Rattle.sample_lines.proofs.FlightFactsLemmas.{flight_sized, on_board}
