-- Names of block_geometry that crates above take from here.
pub use Rattle.spec_slice_headers.specs.BlockGeometry.{ctb_place, ctb_scan, is_decoded_before}
