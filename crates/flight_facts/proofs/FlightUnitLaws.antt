-- Names of flight_unit_laws that crates above take from here.
pub use Rattle.flight_unit_laws.proofs.Halves.{halves_before}
pub use Rattle.flight_unit_laws.proofs.Having.{unit_has_segment}
pub use Rattle.flight_unit_laws.proofs.Names.{all_named}
pub use Rattle.flight_unit_laws.proofs.Pictures.{as_many, height_is, rows_are, rows_at, sync_is, width_is}
pub use Rattle.flight_unit_laws.proofs.Range.{is_flight, reach_told, same_lines}
pub use Rattle.flight_unit_laws.proofs.Reaching.{built_from_uses}
pub use Rattle.flight_unit_laws.proofs.SoundRows.{all_sound}
pub use Rattle.flight_unit_laws.proofs.Stops.{none_stops, stops_there}
