-- Names of filter_locality_laws that crates above take from here.
pub use Rattle.spec_flights.proofs.FilterLocalityLawsLemmas.{horizontal_row, offset_row, vertical_row}
