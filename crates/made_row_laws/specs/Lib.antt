pub mod Shapes
pub mod Units
pub mod Words
pub mod Rows
pub mod Answers
