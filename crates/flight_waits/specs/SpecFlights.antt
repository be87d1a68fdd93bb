-- Names of spec_flights that crates above take from here.
pub use Rattle.flight_facts.specs.SpecFlights.{PlannedFlight, flight_rows, flight_sizes}
unfoldable pub use Rattle.flight_facts.specs.SpecFlights.{folded_at}
pub use Rattle.flight_facts.specs.SpecFlights.{known_folded}
unfoldable pub use Rattle.flight_facts.specs.SpecFlights.{horizontal_samples, is_sound, offset_samples}
pub use Rattle.flight_facts.specs.SpecFlights.{pictures_before}
unfoldable pub use Rattle.flight_facts.specs.SpecFlights.{phase_samples, vertical_samples}
