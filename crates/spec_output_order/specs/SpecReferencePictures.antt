-- Names of spec_reference_pictures that crates above take from here.
pub use Rattle.spec_reference_pictures.specs.PictureOrderCount.{begins_anew, is_irap}
unfoldable pub use Rattle.spec_reference_pictures.specs.PictureOrderCount.{pic_order_cnt_val}
pub use Rattle.spec_reference_pictures.specs.ReferenceLists.{IsCurrent, list_0, list_1}
unfoldable pub use Rattle.spec_reference_pictures.specs.ReferenceLists.{reference_lists}
pub use Rattle.spec_reference_pictures.specs.ReferencePictureSet.{IsLongTerm, IsMarked, IsShortTerm}
unfoldable pub use Rattle.spec_reference_pictures.specs.ReferencePictureSet.{reference_picture_set}
