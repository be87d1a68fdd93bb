-- Names of spec_picture_filters that crates above take from here.
unfoldable pub use Rattle.spec_flights.specs.SpecPictureFilters.{filter_format}
