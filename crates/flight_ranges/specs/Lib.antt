pub mod Buffers
pub mod Segments
pub mod FlightUnitLaws
pub mod FlightValueLaws
pub mod FlightFacts
pub mod PictureBuild
