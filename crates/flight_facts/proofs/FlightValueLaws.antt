-- Names of flight_value_laws that crates above take from here.
pub use Rattle.flight_value_laws.proofs.Known.{contexts_fit, last_fits}
pub use Rattle.flight_value_laws.proofs.Phases.{in_depth, phase_small}
pub use Rattle.flight_value_laws.proofs.Pictures.{all_given}
pub use Rattle.flight_value_laws.proofs.Rows.{in_picture}
pub use Rattle.flight_value_laws.proofs.Values.{fit_at, folded_is, values_fit}
