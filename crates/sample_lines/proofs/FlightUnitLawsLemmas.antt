-- Names of flight_unit_laws that crates above take from here.
pub use Rattle.flight_facts.proofs.FlightUnitLaws.{built_from_uses, halves_before, sync_is, unit_has_segment}
pub use Rattle.flight_facts.proofs.FlightUnitLawsPictures.{as_many, width_is}
