-- Names of picture_buffer that crates above take from here.
pub use Rattle.spec_picture_motion.specs.PictureBuffer.{PlaceMotion, PlaceVector}
