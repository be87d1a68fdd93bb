-- Names of picture_filters that crates above take from here.
pub use Rattle.row_borders.specs.PictureFilters.{IsUnit}
