-- Names of spec_picture_motion that crates above take from here.
unfoldable pub use Rattle.spec_picture_motion.specs.Derived.{known_of_unit, unit_added}
pub use Rattle.spec_picture_motion.specs.Field.{Motions, motion_of, no_motions}
unfoldable pub use Rattle.spec_picture_motion.specs.Field.{beneath_unit, known_beside}
pub use Rattle.spec_picture_motion.specs.Field.{pointing_motion}
unfoldable pub use Rattle.spec_picture_motion.specs.Field.{unit_laid}
pub use Rattle.spec_picture_motion.specs.Slices.{slice_motion}
unfoldable pub use Rattle.spec_picture_motion.specs.Slices.{collocated_entry}
