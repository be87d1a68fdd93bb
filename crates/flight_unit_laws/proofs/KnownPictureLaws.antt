-- Names of known_picture_laws that crates above take from here.
pub use Rattle.known_picture_laws.proofs.FilterData.{folded_motion, places_are_steps, units_are_steps, where_it_is}
pub use Rattle.known_picture_laws.proofs.Order.{in_order}
pub use Rattle.known_picture_laws.proofs.Phases.{last_phase}
pub use Rattle.known_picture_laws.proofs.Reading.{as_known}
pub use Rattle.known_picture_laws.proofs.Segments.{has_segment}
