-- Names of known_unit_laws that crates above take from here.
pub use Rattle.known_unit_laws.proofs.Beside.{first_of_two, second_of_two}
