pub mod Drawn
pub mod Hexadecimal
pub mod Makings
pub mod Numbers
pub mod WordsLaws
