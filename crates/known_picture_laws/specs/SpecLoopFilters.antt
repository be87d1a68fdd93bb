-- Names of spec_loop_filters that crates above take from here.
pub use Rattle.spec_flights.specs.SpecLoopFilters.{FilterFormat, height_of, luma_samples, offset_plane, size_of}
pub use Rattle.spec_flights.specs.SpecLoopFilters.{width_of}
