pub mod Skips
pub mod Answers
pub mod Framing
