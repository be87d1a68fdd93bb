-- Names of flight_facts that crates above take from here.
pub use Rattle.flight_facts.proofs.FlightUnitLaws.{as_many, height_is, is_flight, reach_told, rows_are, same_lines}
pub use Rattle.flight_facts.proofs.FlightUnitLaws.{width_is}
pub use Rattle.flight_facts.proofs.FlightValueLaws.{contexts_fit, in_picture, last_fits}
pub use Rattle.flight_facts.proofs.Laid.{board_sizes, picture_sizes}
