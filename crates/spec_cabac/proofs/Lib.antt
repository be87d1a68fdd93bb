pub mod TableRules
pub mod Renormalization
pub mod Times
pub mod Prefix
pub mod TablesByColumn
pub mod SpecFormatsLemmas
