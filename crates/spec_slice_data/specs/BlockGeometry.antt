-- Names of block_geometry that crates above take from here.
pub use Rattle.spec_residuals.specs.BlockGeometry.{ctb_scan, is_decoded_before}
