-- Names of spec_loop_filters that crates above take from here.
pub use Rattle.filter_locality_laws.specs.SpecLoopFilters.{FilterFormat, height_of, luma_samples, offset_plane}
pub use Rattle.filter_locality_laws.specs.SpecLoopFilters.{size_of, width_of}
