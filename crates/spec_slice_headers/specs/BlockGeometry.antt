-- Names of block_geometry that crates above take from here.
pub use Rattle.plan_types.specs.BlockGeometry.{ctb_place, ctb_scan, is_decoded_before, is_from}
