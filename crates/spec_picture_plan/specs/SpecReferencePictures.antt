-- Names of spec_reference_pictures that crates above take from here.
pub use Rattle.spec_output_order.specs.SpecReferencePictures.{IsCurrent, IsLongTerm, IsMarked, IsShortTerm, list_0}
pub use Rattle.spec_output_order.specs.SpecReferencePictures.{list_1}
unfoldable pub use Rattle.spec_output_order.specs.SpecReferencePictures.{pic_order_cnt_val, reference_lists}
unfoldable pub use Rattle.spec_output_order.specs.SpecReferencePictures.{reference_picture_set}
