pub mod Row
pub mod Units
pub mod Moves
pub mod Laying
