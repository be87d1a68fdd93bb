pub mod Content
pub mod SliceHeaders
pub mod HeaderTypes
