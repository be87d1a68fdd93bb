-- Names of spec_picture_motion that crates above take from here.
pub use Rattle.spec_picture_motion.specs.Field.{Motions}
