pub mod InRange
pub mod Places
pub mod Ranges
pub mod HeldMotions
