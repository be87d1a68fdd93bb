pub mod AngleTables
