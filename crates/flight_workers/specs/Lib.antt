pub mod Working
pub mod FlightWaits
