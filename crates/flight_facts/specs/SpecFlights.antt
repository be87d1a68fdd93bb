-- Names of spec_flights that crates above take from here.
pub use Rattle.flight_unit_laws.specs.SpecFlights.{PlannedFlight, flight_rows, flight_sizes}
unfoldable pub use Rattle.flight_unit_laws.specs.SpecFlights.{buffer_before, expected}
pub use Rattle.flight_unit_laws.specs.SpecFlights.{folded_in, given_at}
unfoldable pub use Rattle.flight_unit_laws.specs.SpecFlights.{folded_at, horizontal_samples, is_sound}
pub use Rattle.flight_unit_laws.specs.SpecFlights.{is_sound_in, is_sound_of, known_decoded, known_folded}
unfoldable pub use Rattle.flight_unit_laws.specs.SpecFlights.{modes_at}
pub use Rattle.flight_unit_laws.specs.SpecFlights.{modes_of}
unfoldable pub use Rattle.flight_unit_laws.specs.SpecFlights.{names_before, offset_samples, phase_samples}
pub use Rattle.flight_unit_laws.specs.SpecFlights.{picture_named, pictures_before, rows_of}
unfoldable pub use Rattle.flight_unit_laws.specs.SpecFlights.{rows_in, values_in}
unfoldable pub use Rattle.flight_unit_laws.specs.SpecFlights.{vertical_samples}
