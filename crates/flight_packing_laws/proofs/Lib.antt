pub mod Agreeing
pub mod Sizes
pub mod Placed
pub mod Holding
pub mod Packed
pub mod UnitWordsLemmas
