pub mod Ranges
pub mod UnitPlaces
