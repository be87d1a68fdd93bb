-- Names of filter_locality_laws that crates above take from here.
pub use Rattle.spec_flights.specs.FilterLocalityLaws.{IsFilterFormat, IsOfRow, IsPlaceOfRow, behind_vertical}
