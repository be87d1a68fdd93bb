pub mod Numbered
pub mod Ticketed
pub mod Laid
pub mod Placed
pub mod Meant
pub mod Needed
pub mod Steps
pub mod Closed
