-- Names of picture_buffer that crates above take from here.
pub use Rattle.locality_laws.specs.PictureBuffer.{PlaceMotion, PlaceVector}
