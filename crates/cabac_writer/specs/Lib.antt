pub mod Coding
pub mod Held
pub mod Encoders
pub mod Pulses
pub mod Flushed
