pub mod Lines
pub mod Places
pub mod Thresholds
pub mod Decisions
pub mod Filters
pub mod Planes
pub mod Step
