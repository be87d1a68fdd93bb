-- Names of spec_picture_filters that crates above take from here.
pub use Rattle.spec_decoder.specs.SpecPictureFilters.{FilterData}
unfoldable pub use Rattle.spec_decoder.specs.SpecPictureFilters.{beside_unit, coded_laid, coded_near, filter_format}
pub use Rattle.spec_decoder.specs.SpecPictureFilters.{is_component, loop_filters, pcm_disabled}
unfoldable pub use Rattle.spec_decoder.specs.SpecPictureFilters.{filtered, motion_near}
pub use Rattle.spec_decoder.specs.SpecPictureFilters.{unit_added}
unfoldable pub use Rattle.spec_decoder.specs.SpecPictureFilters.{place_of, places_laid, places_read, read_added}
pub use Rattle.spec_decoder.specs.SpecPictureFilters.{units_filtered}
unfoldable pub use Rattle.spec_decoder.specs.SpecPictureFilters.{units_laid}
