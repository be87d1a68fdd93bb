-- Names of spec_flights that crates above take from here.
pub use Rattle.spec_flights.specs.Pictures.{PlannedFlight}
unfoldable pub use Rattle.spec_flights.specs.References.{names_before}
pub use Rattle.spec_flights.specs.Words.{flight_sizes}
