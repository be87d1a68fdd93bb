-- Names of flight_facts that crates above take from here.
pub use Rattle.flight_waits.proofs.FlightFactsLemmas.{bases_again, each_there}
