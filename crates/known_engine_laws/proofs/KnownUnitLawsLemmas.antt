-- Names of known_unit_laws that crates above take from here.
pub use Rattle.known_unit_laws.proofs.Beside.{first_of_two}
pub use Rattle.known_unit_laws.proofs.Entries.{known_step}
pub use Rattle.known_unit_laws.proofs.Lookup.{found_first, found_later}
