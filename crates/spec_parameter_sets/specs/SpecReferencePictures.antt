-- Names of spec_reference_pictures that crates above take from here.
pub use Rattle.spec_reference_pictures.specs.PictureOrderCount.{is_idr, is_irap}
unfoldable pub use Rattle.spec_reference_pictures.specs.PictureOrderCount.{pic_order_cnt_val}
pub use Rattle.spec_reference_pictures.specs.ReferenceLists.{no_reference}
unfoldable pub use Rattle.spec_reference_pictures.specs.ReferencePictureSet.{num_pic_total_curr}
unfoldable pub use Rattle.spec_reference_pictures.specs.ReferencePictureSet.{reference_picture_set}
unfoldable pub use Rattle.spec_reference_pictures.specs.ShortTermSets.{st_ref_pic_set}
