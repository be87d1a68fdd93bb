pub mod Leaves
pub mod Quarters
pub mod CabacContexts
pub mod CabacEngine
