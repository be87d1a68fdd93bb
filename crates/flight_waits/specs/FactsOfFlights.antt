-- Names of flight_facts that crates above take from here.
pub use Rattle.flight_facts.specs.Boards.{board_flight, flight_meaning, sizes_in}
pub use Rattle.flight_facts.specs.Facts.{flight_in}
pub use Rattle.flight_facts.specs.FlightUnitLaws.{IsPlanned}
pub use Rattle.flight_facts.specs.FlightValueLaws.{AreUsesSound}
pub use Rattle.flight_facts.specs.Flights.{IsOfFlight}
pub use Rattle.flight_facts.specs.PictureBuild.{IsCommon, buffer_of}
pub use Rattle.flight_facts.specs.declared.flight_facts.FlightFacts.{FlightFacts}
