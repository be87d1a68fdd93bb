pub mod Decoding
pub mod Flights
pub mod Stopped
