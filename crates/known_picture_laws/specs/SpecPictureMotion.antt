-- Names of spec_picture_motion that crates above take from here.
pub use Rattle.locality_laws.specs.SpecPictureMotion.{Motions, References}
unfoldable pub use Rattle.locality_laws.specs.SpecPictureMotion.{beneath_unit, collocated_entry}
pub use Rattle.locality_laws.specs.SpecPictureMotion.{collocated_motions, collocated_of, is_border}
unfoldable pub use Rattle.locality_laws.specs.SpecPictureMotion.{known_beside}
pub use Rattle.locality_laws.specs.SpecPictureMotion.{max_candidates, motion_of}
unfoldable pub use Rattle.locality_laws.specs.SpecPictureMotion.{known_of_unit, motion_beside}
pub use Rattle.locality_laws.specs.SpecPictureMotion.{no_motions, pointing_motion, pointing_vector}
unfoldable pub use Rattle.locality_laws.specs.SpecPictureMotion.{motion_of_slice}
pub use Rattle.locality_laws.specs.SpecPictureMotion.{slice_motion, vector_of}
unfoldable pub use Rattle.locality_laws.specs.SpecPictureMotion.{unit_added, unit_laid, units_derived}
