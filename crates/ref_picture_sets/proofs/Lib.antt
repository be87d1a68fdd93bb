pub mod Places
pub mod Cycles
pub mod Growing
mod Entries
mod Near
