pub mod Names
pub mod SpecFlights
pub mod SpecPictureFilters
pub mod SpecDecoder
