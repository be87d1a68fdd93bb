mod Lists
pub mod Sets
pub mod Found
pub mod DerivedSets
pub mod Entries
pub mod Distinct
pub mod Total
pub mod SpecFormatsLemmas
