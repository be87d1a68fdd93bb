pub mod Neighbours
pub mod Substitution
pub mod Smoothing
pub mod PlanarDc
pub mod Angular
pub mod Prediction
pub mod AngleRule
