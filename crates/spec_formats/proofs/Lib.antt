pub mod Agreement
pub mod Lists
pub mod Locality
pub mod Values
