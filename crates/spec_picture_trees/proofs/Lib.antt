pub mod Forgetting
pub mod Sharing
