pub mod Uses
pub mod Reached
pub mod Indices
pub mod Ends
pub mod Standing
pub mod Passes
pub mod FlightPackingLawsLemmas
pub mod FlightWaitsLemmas
