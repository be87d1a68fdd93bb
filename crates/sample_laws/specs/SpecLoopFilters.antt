-- Names of spec_loop_filters that crates above take from here.
pub use Rattle.spec_decoded_pictures.specs.SpecLoopFilters.{AreInRange, FilterFormat, LoopFilters}
unfoldable pub use Rattle.spec_decoded_pictures.specs.SpecLoopFilters.{deblocked_samples}
pub use Rattle.spec_decoded_pictures.specs.SpecLoopFilters.{depth_of, offset_plane, plane_of}
