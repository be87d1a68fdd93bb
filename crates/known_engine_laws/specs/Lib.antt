pub mod Leaving
pub mod UnitTreeLaws
