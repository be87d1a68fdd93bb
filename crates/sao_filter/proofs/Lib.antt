pub mod Laid
pub mod Beside
pub mod Rows
pub mod Edges
pub mod Kept
pub mod Lane
pub mod Moved
pub mod Picture
