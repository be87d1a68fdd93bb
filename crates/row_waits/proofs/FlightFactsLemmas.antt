-- Names of flight_facts that crates above take from here.
pub use Rattle.flight_waits.proofs.FlightFactsLemmas.{are_sizes, bases_again, sizes_are}
