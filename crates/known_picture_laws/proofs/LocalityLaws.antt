-- Names of locality_laws that crates above take from here.
pub use Rattle.locality_laws.proofs.Border.{column_at, line_at}
pub use Rattle.locality_laws.proofs.Motion.{beneath_agrees, known_motion_agrees, known_of_unit_agrees, motion_stays}
pub use Rattle.locality_laws.proofs.Motion.{place_is, some_places}
pub use Rattle.locality_laws.proofs.Moved.{motion_is_its_step}
pub use Rattle.locality_laws.proofs.Samples.{known_agrees, others_stay, some_side}
pub use Rattle.locality_laws.proofs.Widths.{eights_in, halved, some_units}
