pub mod Filters
pub mod Regions
pub mod Units
pub mod Placed
pub mod Rows
