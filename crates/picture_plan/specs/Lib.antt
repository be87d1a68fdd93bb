pub mod Flights
pub mod Plans
pub mod Changes
pub mod Bounds
pub mod States
pub mod Taken
