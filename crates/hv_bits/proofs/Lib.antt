pub mod Reading
pub mod Writing
pub mod Fields
pub mod RoundTrip
