-- Names of spec_flights that crates above take from here.
pub use Rattle.flight_facts.specs.SpecFlights.{PlannedFlight, flight_rows, flight_sizes}
unfoldable pub use Rattle.flight_facts.specs.SpecFlights.{buffer_before, folded_at}
pub use Rattle.flight_facts.specs.SpecFlights.{folded_in, known_decoded, picture_named, pictures_before}
unfoldable pub use Rattle.flight_facts.specs.SpecFlights.{names_before}
