-- Names of spec_loop_filters that crates above take from here.
pub use Rattle.spec_loop_filters.specs.Filters.{height_of, luma_samples, offset_plane, size_of, width_of}
pub use Rattle.spec_loop_filters.specs.declared.format.FilterFormat.{FilterFormat}
