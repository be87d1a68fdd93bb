-- Names of spec_picture_motion that crates above take from here.
pub use Rattle.spec_picture_motion.specs.Derived.{References, collocated_motions}
unfoldable pub use Rattle.spec_picture_motion.specs.Derived.{known_of_unit, unit_added}
unfoldable pub use Rattle.spec_picture_motion.specs.Derived.{units_derived}
pub use Rattle.spec_picture_motion.specs.Field.{Motions, collocated_of, is_border}
unfoldable pub use Rattle.spec_picture_motion.specs.Field.{beneath_unit, known_beside}
pub use Rattle.spec_picture_motion.specs.Field.{motion_of, no_motions, pointing_motion}
unfoldable pub use Rattle.spec_picture_motion.specs.Field.{motion_beside}
pub use Rattle.spec_picture_motion.specs.Field.{pointing_vector, vector_of}
unfoldable pub use Rattle.spec_picture_motion.specs.Field.{unit_laid}
pub use Rattle.spec_picture_motion.specs.Slices.{max_candidates, slice_motion}
unfoldable pub use Rattle.spec_picture_motion.specs.Slices.{collocated_entry, motion_of_slice}
