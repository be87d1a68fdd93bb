-- Names of spec_picture_motion that crates above take from here.
pub use Rattle.spec_picture_build.specs.SpecPictureMotion.{motion_of, slice_motion}
unfoldable pub use Rattle.spec_picture_build.specs.SpecPictureMotion.{collocated_entry, known_of_unit}
