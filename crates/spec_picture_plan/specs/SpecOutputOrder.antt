-- Names of spec_output_order that crates above take from here.
pub use Rattle.spec_output_order.specs.OutputOrder.{size_of}
unfoldable pub use Rattle.spec_output_order.specs.OutputOrder.{last_outputs}
