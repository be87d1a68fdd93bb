-- Names of block_geometry that crates above take from here.
pub use Rattle.block_geometry.specs.CodingTreeBlocks.{ctb_place, ctb_scan, is_decoded_before, is_from}
unfoldable pub use Rattle.block_geometry.specs.Scans.{scan_index, scan_place}
pub use Rattle.block_geometry.specs.declared.kind.Scan.{Scan}
pub use Rattle.block_geometry.specs.declared.kind.Scan.TheVariants.{Diagonal, Horizontal, Vertical}
