-- Names of flight_facts that crates above take from here.
pub use Rattle.flight_facts.proofs.Buffers.{bases_again}
pub use Rattle.flight_facts.proofs.Laid.{each_there}
pub use Rattle.flight_facts.proofs.Sized.{are_sizes, sizes_are}
