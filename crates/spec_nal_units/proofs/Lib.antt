pub mod Ends
pub mod Going
pub mod Walking
pub mod Escaping
pub mod Streams
pub mod Closing
