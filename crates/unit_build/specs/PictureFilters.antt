-- Names of picture_filters that crates above take from here.
pub use Rattle.picture_filters.specs.Filtering.{Filtering, IsUnit, data_of, read_place}
pub use Rattle.picture_filters.specs.Given.{IsGiven}
pub use Rattle.picture_filters.specs.Units.{first_unit}
pub use Rattle.picture_filters.specs.declared.given.UnitFilters.{UnitFilters}
