-- Names of spec_picture_filters that crates above take from here.
unfoldable pub use Rattle.spec_picture_filters.specs.Filtered.{filter_format}
