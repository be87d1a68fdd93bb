pub mod Packs
pub mod Prefixed
pub mod Bypasses
