pub mod Numbers
pub mod Flights
pub mod Shown
pub mod Held
