-- Names of spec_output_order that crates above take from here.
pub use Rattle.spec_output_order.specs.CurrentPictures.{current_picture}
pub use Rattle.spec_output_order.specs.OutputOrder.{size_of}
unfoldable pub use Rattle.spec_output_order.specs.OutputOrder.{is_full_of_references, outputs_of}
