-- Names of spec_reference_pictures that crates above take from here.
pub use Rattle.spec_reference_pictures.specs.PictureOrderCount.{begins_anew}
pub use Rattle.spec_reference_pictures.specs.ReferencePictureSet.{is_reference}
unfoldable pub use Rattle.spec_reference_pictures.specs.ShortTermSets.{st_ref_pic_set}
