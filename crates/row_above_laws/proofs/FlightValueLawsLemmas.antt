-- Names of flight_value_laws that crates above take from here.
pub use Rattle.flight_value_laws.proofs.Known.{IsKnownFit, known_fit}
pub use Rattle.flight_value_laws.proofs.Rows.{in_picture}
pub use Rattle.flight_value_laws.proofs.Segments.{few_units, rise_few}
pub use Rattle.flight_value_laws.proofs.Sides.{bottom_is}
pub use Rattle.flight_value_laws.proofs.Values.{folded_is}
pub use Rattle.flight_value_laws.proofs.Within.{shape_of}
