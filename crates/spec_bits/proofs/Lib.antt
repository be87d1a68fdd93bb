pub mod Numbers
pub mod Places
pub mod Digits
pub mod Codes
pub mod CodeNum
pub mod Signed
pub mod Aligned
pub mod Bytes
