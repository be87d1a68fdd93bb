pub mod Matrices
pub mod Scaling
pub mod Transforms
pub mod SpecArithmetic
