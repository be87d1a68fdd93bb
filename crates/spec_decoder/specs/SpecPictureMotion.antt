-- Names of spec_picture_motion that crates above take from here.
pub use Rattle.spec_decoded_pictures.specs.SpecPictureMotion.{motion_of}
unfoldable pub use Rattle.spec_decoded_pictures.specs.SpecPictureMotion.{collocated_entry, known_of_unit}
pub use Rattle.spec_decoded_pictures.specs.SpecPictureMotion.{slice_motion}
