-- Names of flight_facts that crates above take from here.
pub use Rattle.flight_facts.proofs.Laid.{board_sizes, picture_sizes}
pub use Rattle.flight_facts.proofs.Sized.{flight_sized}
pub use Rattle.flight_facts.proofs.Told.{on_board}
