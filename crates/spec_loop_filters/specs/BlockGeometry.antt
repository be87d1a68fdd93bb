-- Names of block_geometry that crates above take from here.
pub use Rattle.spec_sample_adaptive_offset.specs.BlockGeometry.{is_from}
