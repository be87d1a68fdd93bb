-- Names of flight_unit_laws that crates above take from here.
pub use Rattle.sample_lines.proofs.FlightUnitLawsLemmas.{built_from_uses, halves_before, sync_is, unit_has_segment}
pub use Rattle.sample_lines.proofs.FlightUnitLawsLemmas.{width_is}
