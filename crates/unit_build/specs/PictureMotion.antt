-- Names of picture_motion that crates above take from here.
unfoldable pub use Rattle.picture_motion.specs.Deriving.{derived_over, known_over}
