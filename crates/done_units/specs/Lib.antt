pub mod Done
pub mod Writing
pub mod Seen
pub mod FlightWaits
pub mod FlightPackingLaws
