-- Names of spec_deblocking that crates above take from here.
pub use Rattle.spec_deblocking.proofs.Across.{if_same}
pub use Rattle.spec_deblocking.proofs.Locality.{first_line, horizontal_rows, vertical_rows}
