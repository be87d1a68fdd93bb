pub mod Pulses
pub mod Kept
pub mod Copying
pub mod KeptUnits
