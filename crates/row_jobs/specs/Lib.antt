pub mod Decoding
pub mod Boards
pub mod FlightResults
pub mod PictureBuild
pub mod SpecFlights
