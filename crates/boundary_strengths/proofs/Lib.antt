pub mod Cells
pub mod Steps
pub mod EdgeSides
pub mod Fill
