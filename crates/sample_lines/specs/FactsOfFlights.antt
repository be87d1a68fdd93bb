-- Names of flight_facts that crates above take from here.
pub use Rattle.flight_facts.specs.Boards.{as_base, board_flight, flight_meaning}
pub use Rattle.flight_facts.specs.Facts.{flight_in}
pub use Rattle.flight_facts.specs.FlightUnitLaws.{BuffersAgree, IsPlanned, NamedAgree, PicturesAgree}
pub use Rattle.flight_facts.specs.Flights.{IsOfFlight, samples_of}
unfoldable pub use Rattle.flight_facts.specs.Flights.{samples_at}
pub use Rattle.flight_facts.specs.PictureBuild.{HasDepths, buffer_of, decoded_of}
pub use Rattle.flight_facts.specs.declared.flight_facts.FlightFacts.{FlightFacts}
