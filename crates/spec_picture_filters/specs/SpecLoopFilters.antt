-- Names of spec_loop_filters that crates above take from here.
pub use Rattle.spec_loop_filters.specs.Filters.{AreInRange, LoopFilters, Samples, depth_of}
unfoldable pub use Rattle.spec_loop_filters.specs.Filters.{deblocked_samples}
pub use Rattle.spec_loop_filters.specs.Filters.{height_of, offset_plane, plane_of, width_of}
unfoldable pub use Rattle.spec_loop_filters.specs.Filters.{final_samples}
pub use Rattle.spec_loop_filters.specs.declared.format.FilterFormat.{FilterFormat}
