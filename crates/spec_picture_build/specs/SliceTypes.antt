-- Names of slice_types that crates above take from here.
pub use Rattle.spec_picture_motion.specs.SliceTypes.{InterFields, SliceType}
