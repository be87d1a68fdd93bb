pub mod Keeping
pub mod Decoding
pub mod Boards
pub mod Held
pub mod FlightResultsLemmas
