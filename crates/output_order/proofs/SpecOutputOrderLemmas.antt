-- Names of spec_output_order that crates above take from here.
pub use Rattle.spec_output_order.proofs.Anew.{anew_marks_none}
pub use Rattle.spec_output_order.proofs.Room.{fits}
