pub mod Hashers
