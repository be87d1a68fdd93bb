-- The flight that a value for contracts stands for.
use Rattle.picture_build.specs.Pictures.{buffer_of}
use Rattle.flight_unit_laws.specs.SpecFlights.{PlannedFlight}
use Rattle.flight_facts.specs.declared.flight_facts.FlightFacts.{FlightFacts}
use Rattle.flight_facts.specs.Boards.{flight_of}

-- the flight of its pictures behind the decoded pictures that it has as bases
abbrev pub flight_in : FlightFacts → PlannedFlight
flight_in facts = flight_of facts.pictures.value (buffer_of facts.bases.value)
