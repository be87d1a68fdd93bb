pub mod Words
pub mod Bad
pub mod Waiting
pub mod Drawing
pub mod Apart
pub mod FlightLinesLemmas
