-- Names of filter_locality_laws that crates above take from here.
pub use Rattle.filter_locality_laws.proofs.Rows.{horizontal_row, offset_row, three_steps, vertical_row}
