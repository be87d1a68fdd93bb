-- Names of filter_locality_laws that crates above take from here.
pub use Rattle.filter_locality_laws.specs.Rows.{IsFilterFormat, IsOfRow, IsPlaceOfRow, behind_vertical}
