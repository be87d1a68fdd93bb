pub mod Sets
pub mod Headers
pub mod Plans
pub mod Formers
pub mod Streams
pub mod Outputs
