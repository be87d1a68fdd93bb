-- Names of picture_motion that crates above take from here.
pub use Rattle.picture_motion.proofs.Joining.{added_joins, known_joins}
