pub mod Drawing
pub mod Filling
