pub mod Done
pub mod UnitWords
pub mod SpecFlights
