-- Names of ctu_motion that crates above take from here.
pub use Rattle.picture_motion.specs.CtuMotion.{Cells}
unfoldable pub use Rattle.picture_motion.specs.CtuMotion.{held}
