-- Names of flight_unit_laws that crates above take from here.
pub use Rattle.flight_facts.specs.FlightUnitLaws.{AgreeWhereUsed}
pub use Rattle.flight_facts.specs.FlightUnitLawsPlanned.{IsPlanned}
pub use Rattle.flight_facts.specs.FlightUnitLawsUses.{BuffersAgree}
