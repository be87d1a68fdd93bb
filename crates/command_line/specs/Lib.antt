pub mod LineText
pub mod Making
pub mod Requests
pub mod Summary
pub mod Telling
pub mod Words
