pub mod Predictors
