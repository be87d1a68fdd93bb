pub mod Places
pub mod Prediction
pub mod Tree
