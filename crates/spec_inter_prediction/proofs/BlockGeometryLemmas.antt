-- Names of block_geometry that crates above take from here.
pub use Rattle.block_geometry.proofs.Rows.{taps_between}
