-- Names of spec_loop_filters that crates above take from here.
pub use Rattle.spec_picture_filters.specs.SpecLoopFilters.{depth_of}
