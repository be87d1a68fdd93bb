pub mod Places
pub mod Pending
pub mod Kept
pub mod Standing
