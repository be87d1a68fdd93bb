pub mod Layouts
pub mod Views
