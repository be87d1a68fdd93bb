pub mod Pictures
pub mod Motion
pub mod Inter
