-- Names of spec_picture_filters that crates above take from here.
pub use Rattle.spec_picture_filters.specs.Data.{FilterData}
unfoldable pub use Rattle.spec_picture_filters.specs.Data.{no_data}
pub use Rattle.spec_picture_filters.specs.Filtered.{loop_filters, units_filtered}
unfoldable pub use Rattle.spec_picture_filters.specs.Filtered.{filter_format, filtered}
pub use Rattle.spec_picture_filters.specs.Units.{is_component}
unfoldable pub use Rattle.spec_picture_filters.specs.Units.{beside_unit, coded_laid, coded_near, motion_near}
pub use Rattle.spec_picture_filters.specs.Units.{pcm_disabled}
unfoldable pub use Rattle.spec_picture_filters.specs.Units.{place_of, places_laid, places_read, read_added}
pub use Rattle.spec_picture_filters.specs.Units.{unit_added}
unfoldable pub use Rattle.spec_picture_filters.specs.Units.{units_laid}
