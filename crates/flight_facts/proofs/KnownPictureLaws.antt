-- Names of known_picture_laws that crates above take from here.
pub use Rattle.flight_unit_laws.proofs.KnownPictureLaws.{folded_motion, has_segment, in_order, last_phase}
pub use Rattle.flight_unit_laws.proofs.KnownPictureLaws.{places_are_steps, units_are_steps, where_it_is}
