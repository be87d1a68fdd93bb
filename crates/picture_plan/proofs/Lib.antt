pub mod Fronts
pub mod Pictures
pub mod Closings
pub mod Taking
