pub mod Segments
pub mod Places
pub mod Plans
pub mod Stream
