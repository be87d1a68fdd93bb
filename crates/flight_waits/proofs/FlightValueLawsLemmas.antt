-- Names of flight_value_laws that crates above take from here.
pub use Rattle.flight_facts.proofs.FlightValueLaws.{all_given, fit_at, folded_is, in_depth, phase_small}
