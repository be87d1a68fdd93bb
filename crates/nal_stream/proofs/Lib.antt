pub mod Scanning
pub mod PlacesBelow
pub mod Framers
