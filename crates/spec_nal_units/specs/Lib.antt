pub mod Units
pub mod Judged
pub mod ByteStream
pub mod Escaped
pub mod Closed
