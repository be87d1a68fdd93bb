-- Names of ctu_motion that crates above take from here.
pub use Rattle.ctu_motion.specs.Held.{Cells}
unfoldable pub use Rattle.ctu_motion.specs.Held.{held}
