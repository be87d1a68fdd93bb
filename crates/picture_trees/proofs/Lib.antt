pub mod Columns
pub mod Keeping
pub mod Segments
pub mod PictureLayoutLemmas
