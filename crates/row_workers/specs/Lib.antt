pub mod Workers
pub mod SpecFlights
pub mod SpecDecodedPictures
pub mod SpecDecoder
pub mod FlightViews
pub mod FlightWorkers
