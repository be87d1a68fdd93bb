pub mod Whole
pub mod OneSet
pub mod Calls
pub mod Maximal
pub mod Stops
