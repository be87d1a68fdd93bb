-- Names of block_geometry that crates above take from here.
pub use Rattle.block_geometry.specs.Rows.{line_in, row_of_line, tap_line}
unfoldable pub use Rattle.block_geometry.specs.Scans.{scan_index}
pub use Rattle.block_geometry.specs.declared.kind.Scan.TheVariants.{Diagonal}
