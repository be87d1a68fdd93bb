pub mod Motion
pub mod Edges
pub mod Strengths
pub mod Places
pub mod Worked
pub mod CtuRecords
pub mod PictureBuffer
