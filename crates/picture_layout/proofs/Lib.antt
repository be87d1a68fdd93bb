pub mod Places
pub mod Sizes
pub mod Powers
pub mod Blocks
