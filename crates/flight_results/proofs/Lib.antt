pub mod Flights
pub mod Held
pub mod Faults
