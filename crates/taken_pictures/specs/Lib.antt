pub mod Rows
pub mod Places
pub mod Kept
pub mod Pictures
pub mod FlightFacts
pub mod PictureBuild
pub mod SpecFlights
pub mod FlightUnitLaws
