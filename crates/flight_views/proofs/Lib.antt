pub mod Alike
pub mod Sides
pub mod Planned
pub mod Formats
pub mod Viewed
