-- Names of spec_flights that crates above take from here.
unfoldable pub use Rattle.row_workers.specs.SpecFlights.{staying}
