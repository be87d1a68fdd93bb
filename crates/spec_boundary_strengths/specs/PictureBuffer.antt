-- Names of picture_buffer that crates above take from here.
pub use Rattle.picture_buffer.specs.declared.place_motion.PlaceMotion.{PlaceMotion}
