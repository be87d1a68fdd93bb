pub mod SpecParameterSets
pub mod HeaderFields
