-- Names of flight_facts that crates above take from here.
pub use Rattle.flight_facts.proofs.Buffers.{bases_again}
pub use Rattle.flight_facts.proofs.FlightUnitLaws.{all_named, all_sound}
pub use Rattle.flight_facts.proofs.KnownPictureLaws.{folded_motion, last_phase}
pub use Rattle.flight_facts.proofs.Laid.{board_sizes, each_there, picture_sizes}
pub use Rattle.flight_facts.proofs.Sized.{flight_sized}
pub use Rattle.flight_facts.proofs.Told.{tells_bad}
