pub mod Laying
pub mod Own
pub mod Places
pub mod Formats
pub mod Lent
pub mod HeldPlaces
