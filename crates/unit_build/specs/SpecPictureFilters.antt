-- Names of spec_picture_filters that crates above take from here.
pub use Rattle.spec_picture_filters.specs.Data.{FilterData}
unfoldable pub use Rattle.spec_picture_filters.specs.Data.{no_data}
pub use Rattle.spec_picture_filters.specs.Filtered.{Behind, added_in, before_units}
unfoldable pub use Rattle.spec_picture_filters.specs.Filtered.{both_added, filter_format}
pub use Rattle.spec_picture_filters.specs.Filtered.{units_filtered, with_unit}
unfoldable pub use Rattle.spec_picture_filters.specs.Filtered.{filtered, units_behind}
unfoldable pub use Rattle.spec_picture_filters.specs.Units.{read_added}
