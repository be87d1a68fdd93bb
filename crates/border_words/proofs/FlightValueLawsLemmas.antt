-- Names of flight_value_laws that crates above take from here.
pub use Rattle.row_above_laws.proofs.FlightValueLawsLemmas.{IsKnownFit, bottom_is, few_units, folded_is, in_picture}
pub use Rattle.row_above_laws.proofs.FlightValueLawsLemmas.{known_fit, rise_few, shape_of}
