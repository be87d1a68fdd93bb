pub mod Values
pub mod Steps
pub mod ReadBack
pub mod Bytes
pub mod Held
pub mod Substreams
pub mod Flushed
