pub mod Lists
pub mod Codes
pub mod Rows
pub mod Hashes
pub mod Pictures
pub mod Plain
pub mod Writings
